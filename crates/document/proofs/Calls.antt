-- The rows for the calls, the other end of the cable, setups and sets hold of the definitions.
use mathlib.Core.Path.{◌≡◌, refl}
use mathlib.Core.List.{List, [], ◌∷◌, ◌++◌, map}
use Rattle.document.specs.Hex.{hex}
use Rattle.document.specs.Services.{service_of}
use Rattle.document.specs.Message.{well_formed, on_wire, heard, finished_by}
use Rattle.document.specs.Permission.{may_be_written}
use Rattle.document.specs.Refusals.{refusal}
use Rattle.document.specs.Commands.{answered}
use Rattle.document.specs.Panel.{panel_prepares, panel_starts}
use Rattle.document.specs.Asides.{beside}
use Rattle.document.specs.Answer.{answer_on_wire, answers_heard, answer_finished_by}
use Rattle.document.specs.AnswerWriter.{answer_refusal, answer_written, answer_buffer}
use Rattle.document.specs.CommandWriter.{command_refusal, command_written, command_buffer}
use Rattle.document.specs.AnswerReader.{read_room_refusal, brought}
use Rattle.document.specs.Plan.{plan_in}
use Rattle.document.specs.Trigger.{fires, is_beyond}
use Rattle.document.specs.Run.{ran_tick, memory_after_tick}
use Rattle.document.specs.Sets.{sets_taken}
use Rattle.document.specs.CallRows.{Line, call_rows, answer_rows, command_rows, status_rows}
use Rattle.document.specs.ReaderRows.{reader_rows}
use Rattle.document.specs.ApplicationRows.{collect_rows}
use Rattle.document.specs.Strings.{before_zero, has_zero}
use Rattle.document.specs.BaseTypes.{size_of_code}
use Rattle.document.specs.TableRows.{entry_rows, list_rows, register_rows, table_rows, tables_by_step, long_name, long_name_rows}
use Rattle.document.specs.Tables.{is_list_good}
use Rattle.document.specs.Rows.{said_by}
use Rattle.document.specs.BlockRows.{block_rows}
use Rattle.document.specs.PanelRows.{panel_lines}
use Rattle.document.specs.SetRows.{plain_plan, ex_plan, plain_plan_no_trigger, plans_in, buffer_answers, histories, taken, written, rounds, lasts, copied}
use Rattle.document.proofs.Rows.{holds_eq, lists_eq}

abbrev pub lines : List Line
unfolding call_rows answer_rows command_rows status_rows reader_rows collect_rows
lines = call_rows ++ answer_rows ++ command_rows ++ status_rows ++ reader_rows ++ collect_rows

pub lines_hold : map (λ (l : Line). l.gives) lines ≡ map (λ (l : Line). l.says) lines
unfolding call_rows answer_rows command_rows status_rows reader_rows collect_rows well_formed on_wire answer_on_wire answers_heard answer_finished_by answer_refusal answer_written answer_buffer command_refusal command_written command_buffer read_room_refusal brought
lines_hold = lists_eq (map (λ (l : Line). l.gives) lines) (map (λ (l : Line). l.says) lines) refl

-- over no memory at all, in which every entry is good
abbrev pub lists : List Line
unfolding list_rows register_rows
lists = list_rows [] ++ register_rows

pub lists_hold : map (λ (l : Line). l.gives) lists ≡ map (λ (l : Line). l.says) lists
unfolding list_rows register_rows size_of_code is_list_good
lists_hold = lists_eq (map (λ (l : Line). l.gives) lists) (map (λ (l : Line). l.says) lists) refl

pub tables_hold : map (tables_by_step []) table_rows ≡ map said_by table_rows
unfolding table_rows answer_on_wire heard service_of refusal answered
tables_hold = holds_eq (map (tables_by_step []) table_rows) (map said_by table_rows) refl

pub long_name_holds : map (tables_by_step long_name) long_name_rows ≡ map said_by long_name_rows
unfolding long_name_rows answer_on_wire heard service_of refusal answered before_zero has_zero
long_name_holds = holds_eq (map (tables_by_step long_name) long_name_rows) (map said_by long_name_rows) refl

pub entries_hold : map (λ (l : Line). l.gives) entry_rows ≡ map (λ (l : Line). l.says) entry_rows
unfolding entry_rows size_of_code
entries_hold = lists_eq (map (λ (l : Line). l.gives) entry_rows) (map (λ (l : Line). l.says) entry_rows) refl

pub blocks_hold : map (λ (l : Line). l.gives) block_rows ≡ map (λ (l : Line). l.says) block_rows
unfolding block_rows answer_on_wire heard finished_by service_of may_be_written refusal answered beside
blocks_hold = lists_eq (map (λ (l : Line). l.gives) block_rows) (map (λ (l : Line). l.says) block_rows) refl

pub panel_holds : map (λ (l : Line). l.gives) panel_lines ≡ map (λ (l : Line). l.says) panel_lines
unfolding panel_lines heard finished_by service_of refusal answered plan_in ran_tick memory_after_tick beside panel_prepares panel_starts
panel_holds = lists_eq (map (λ (l : Line). l.gives) panel_lines) (map (λ (l : Line). l.says) panel_lines) refl

pub plans_hold : plans_in ≡ (plain_plan ∷ ex_plan ∷ plain_plan_no_trigger ∷ [])
unfolding plan_in
plans_hold = refl

pub buffer_answers_hold : buffer_answers ≡ (hex "0030 0201" ∷ hex "00300000 0201" ∷ [])
buffer_answers_hold = lists_eq buffer_answers (hex "0030 0201" ∷ hex "00300000 0201" ∷ []) refl

pub histories_hold : map taken histories ≡ map written histories
unfolding histories sets_taken fires is_beyond
histories_hold = holds_eq (map taken histories) (map written histories) refl

pub rounds_hold : rounds ≡ (hex "20" ∷ hex "10" ∷ hex "20" ∷ [])
rounds_hold = lists_eq rounds (hex "20" ∷ hex "10" ∷ hex "20" ∷ []) refl

pub lasts_hold : lasts ≡ (hex "20" ∷ hex "30" ∷ [])
lasts_hold = lists_eq lasts (hex "20" ∷ hex "30" ∷ []) refl

pub copied_holds : copied ≡ (hex "20 30 10" ∷ [])
copied_holds = lists_eq copied (hex "20 30 10" ∷ []) refl
