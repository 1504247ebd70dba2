-- Every row, computed.
use mathlib.Core.Path.{◌≡◌, refl}
use mathlib.Core.List.{map}
use Rattle.document.specs.Message.{heard_at}
use Rattle.document.specs.CallRows.{Line}
use Rattle.document_captures.specs.Captures.{captured, capture_refusal, capture_count, capture_list}
use Rattle.document_captures.specs.CaptureRows.{capture_rows, lent_rows}

pub capture_rows_hold : map (λ (l : Line). l.gives) capture_rows ≡ map (λ (l : Line). l.says) capture_rows
unfolding capture_rows captured heard_at
capture_rows_hold = refl

pub lent_rows_hold : map (λ (l : Line). l.gives) lent_rows ≡ map (λ (l : Line). l.says) lent_rows
unfolding lent_rows capture_list capture_count capture_refusal captured heard_at
lent_rows_hold = refl
