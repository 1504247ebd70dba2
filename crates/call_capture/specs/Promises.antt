-- The capture call's promise: its result and the whole lent list, refused or not.
use Rattle.std.specs.Prelude.{◌≡◌, List, ℕ}
use Rattle.document_captures.specs.Captures.{capture_refusal, capture_count, capture_list}
use Rattle.call_capture.specs.declared.Listed.{Listed}

pub record CaptureDone (bytes before : List ℕ) (r : Listed) (after : List ℕ) : Type 0 where
  pub result : r ≡ record { refusal = capture_refusal bytes before; count = capture_count bytes before }
  pub list : after ≡ capture_list bytes before
