-- The rows for what stays hold of the definitions, over a short memory.
use mathlib.Core.Path.{◌≡◌, refl}
use mathlib.Core.List.{map}
use lib.ListN.{replicate}
use Rattle.document.specs.Services.{service_of}
use Rattle.document.specs.Message.{heard, finished_by}
use Rattle.document.specs.Answer.{answer_on_wire}
use Rattle.document.specs.Plan.{plan_in}
use Rattle.document.specs.Trigger.{fires, is_beyond}
use Rattle.document.specs.Run.{ran_tick, memory_after_tick}
use Rattle.document.specs.Permission.{may_be_written}
use Rattle.document.specs.Refusals.{refusal}
use Rattle.document.specs.Commands.{answered}
use Rattle.document.specs.Panel.{panel_prepares, panel_starts}
use Rattle.document.specs.CheckSum.{shifted, shifts, stepped, check_sum}
use Rattle.document.specs.Frames.{is_silenced}
use Rattle.document.specs.Modbus.{exception_to, modbus_memory}
use Rattle.document.specs.Asides.{beside}
use Rattle.document.specs.Strings.{before_zero, has_zero}
use Rattle.document.specs.Rows.{said_by}
use Rattle.document.specs.TableRows.{tables_by_step}
use Rattle.document.specs.CallRows.{Line}
use Rattle.document.specs.StayRows.{stay_rows, left_rows}
use Rattle.document.proofs.Rows.{holds_eq, lists_eq}

pub stay_rows_hold : map (tables_by_step (replicate 96 0)) stay_rows ≡ map said_by stay_rows
unfolding stay_rows answer_on_wire heard finished_by service_of plan_in fires is_beyond ran_tick memory_after_tick may_be_written refusal answered panel_prepares panel_starts shifted shifts stepped check_sum is_silenced exception_to modbus_memory beside before_zero has_zero
stay_rows_hold = holds_eq (map (tables_by_step (replicate 96 0)) stay_rows) (map said_by stay_rows) refl

pub left_rows_hold : map (λ (l : Line). l.gives) left_rows ≡ map (λ (l : Line). l.says) left_rows
unfolding left_rows heard finished_by service_of plan_in fires is_beyond ran_tick memory_after_tick may_be_written refusal answered shifted shifts stepped check_sum is_silenced exception_to modbus_memory beside
left_rows_hold = lists_eq (map (λ (l : Line). l.gives) left_rows) (map (λ (l : Line). l.says) left_rows) refl
