-- The rows of the calls and the tables' lists that want a whole memory hold of the definitions.
use mathlib.Core.Path.{◌≡◌, refl}
use mathlib.Core.List.{List, ◌++◌, map}
use Rattle.document.specs.Message.{well_formed, on_wire}
use Rattle.document.specs.CommandWriter.{command_refusal, command_written, command_buffer}
use Rattle.document.specs.BaseTypes.{size_of_code}
use Rattle.document.specs.Tables.{is_list_good}
use Rattle.document.specs.CallRows.{Line}
use Rattle.document.specs.TableRows.{list_rows}
use Rattle.document.proofs.Rows.{lists_eq}
use Rattle.document_worked.specs.WholeRows.{call_rows, writer_rows}
use Rattle.document_worked.specs.TableRows.{wide}

abbrev pub lines : List Line
unfolding call_rows writer_rows
lines = call_rows ++ writer_rows

pub lines_hold : map (λ (l : Line). l.gives) lines ≡ map (λ (l : Line). l.says) lines
unfolding call_rows writer_rows well_formed on_wire command_refusal command_written command_buffer
lines_hold = lists_eq (map (λ (l : Line). l.gives) lines) (map (λ (l : Line). l.says) lines) refl

pub lists_hold : map (λ (l : Line). l.gives) (list_rows wide) ≡ map (λ (l : Line). l.says) (list_rows wide)
unfolding list_rows size_of_code is_list_good
lists_hold = lists_eq (map (λ (l : Line). l.gives) (list_rows wide)) (map (λ (l : Line). l.says) (list_rows wide)) refl
