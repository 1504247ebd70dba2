-- The order of the refusals, by every pair of them that can apply together.
use mathlib.Core.Path.{◌≡◌, refl}
use mathlib.Core.List.{map}
use Rattle.document.specs.Hex.{hex}
use Rattle.document.specs.Services.{service_of}
use Rattle.document.specs.Kinds.{kind_of}
use Rattle.document.specs.Message.{heard}
use Rattle.document.specs.Answer.{answer_on_wire}
use Rattle.document.specs.Plan.{plan_in}
use Rattle.document.specs.Permission.{may_be_written}
use Rattle.document.specs.Refusals.{order, refusal}
use Rattle.document.specs.Commands.{answered}
use Rattle.document.specs.Rows.{said_by, step_by_step}
use Rattle.document.specs.CallRows.{Line}
use Rattle.document.specs.RefusalPairs.{Faulty, faulty_messages, pair_rows, faults_of}
use Rattle.document.specs.KindRows.{kind_rows, kinds_in, kinds_from, service_rows}
use Rattle.document.proofs.Rows.{holds_eq, lists_eq}

pub pairs_hold : map step_by_step (pair_rows faulty_messages) ≡ map said_by (pair_rows faulty_messages)
unfolding faulty_messages heard answer_on_wire service_of plan_in may_be_written refusal answered
pairs_hold = holds_eq (map step_by_step (pair_rows faulty_messages)) (map said_by (pair_rows faulty_messages)) refl

pub faults_apply : map faults_of faulty_messages ≡ map (λ (f : Faulty). f.faults) faulty_messages
unfolding faulty_messages heard answer_on_wire service_of plan_in may_be_written refusal answered
faults_apply = lists_eq (map faults_of faulty_messages) (map (λ (f : Faulty). f.faults) faulty_messages) refl

pub order_written : order ≡ hex "82 83 81 88 87 85 86 84 89"
order_written = refl

pub kinds_hold : kinds_from 0 kind_rows ≡ kinds_in kind_rows
unfolding kind_of
kinds_hold = refl

pub services_hold : map (λ (l : Line). l.gives) service_rows ≡ map (λ (l : Line). l.says) service_rows
unfolding service_rows service_of
services_hold = lists_eq (map (λ (l : Line). l.gives) service_rows) (map (λ (l : Line). l.says) service_rows) refl
