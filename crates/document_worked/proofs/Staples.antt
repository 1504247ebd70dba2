-- Cases 1 to 13 and the further rows hold of the definitions: all of them by one computation.
use mathlib.Core.Path.{◌≡◌, refl}
use mathlib.Core.List.{List, ◌++◌, map}
use Rattle.document.specs.Services.{service_of}
use Rattle.document.specs.Message.{heard, finished_by}
use Rattle.document.specs.Answer.{answer_on_wire}
use Rattle.document.specs.Plan.{plan_in}
use Rattle.document.specs.Trigger.{fires, is_beyond}
use Rattle.document.specs.Run.{ran_tick, memory_after_tick}
use Rattle.document.specs.Permission.{may_be_written}
use Rattle.document.specs.Refusals.{refusal}
use Rattle.document.specs.Commands.{answered}
use Rattle.document.specs.Asides.{beside}
use Rattle.document_worked.specs.Staples.{Case, shown, staples}
use Rattle.document_worked.specs.Further.{orders, not_served_cases}

abbrev pub table : List Case
unfolding staples orders not_served_cases
table = staples ++ orders ++ not_served_cases

pub staples_hold : map shown table ≡ map (λ (c : Case). c.shows) table
unfolding staples orders not_served_cases answer_on_wire heard finished_by service_of may_be_written refusal answered plan_in fires is_beyond ran_tick memory_after_tick beside
staples_hold = refl
