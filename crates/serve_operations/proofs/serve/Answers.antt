-- One arm for each operation: its function's promise, read with the operation known.
use mathlib.Core.Path.{refl, ap}
use mathlib.Core.List.{List}
use Prim.Native.Nat.{ℕ, ◌<◌, ◌≤◌}
use lib.ListN.{length, get_or}
use borrow.Author.Rules.{rules}
use Rattle.codes_table.specs.Statuses.{status_number, outcome_number}
use Rattle.document.specs.Numbers.{not_served}
use Rattle.document.specs.declared.Operation.TheVariants.{Unserved, Describe, DescribeBriefly, Read, Write, WriteMasked, SetUpScope, ReadScope, PrepareAndStart, Start, Stop, Status, QueryBuffer, SendCommand, CommandResult, TellTable, MeasureString}
use Rattle.document.specs.Commands.{served}
use Rattle.document.specs.declared.Service.{Service}
use Rattle.state_parts.specs.State.{gate_of}
use Rattle.state_byte.specs.After.{instruments_after}
use Rattle.state_block.specs.Layout.{data_to, decoded_instruments}
use Rattle.state_block.specs.Places.{state_length}
use Rattle.serve_recorder.specs.Operates.{Settles}
use Rattle.serve_operations.proofs.Arms.{Asked, tells, settles, says, wrote, met, settled_told, unserved_says}
use Rattle.serve_operations.proofs.serve.Goals.{in-Unserved, in-Write, in-WriteMasked, in-SetUpScope, in-PrepareAndStart, in-Start, in-Stop, in-Status, in-SendCommand}
use Rattle.serve_operations.proofs.serve.Goals as goal

-- ---- the service, the state that is lent, where its data ends, and the memory
module _ (service : Service) (state : List ℕ) (to : ℕ) (memory : List ℕ) (long : state_length ≤ length state) (small : (i : ℕ) → get_or state i 0 < 256) where
  abbrev asked : Asked
  asked = record { service = service; block = state; long = long; small = small; body = data_to state to; memory = memory }

pub returns-in-Describe : goal.returns-in-Describe
returns-in-Describe c =
    let q = asked c.args.service c.args.state.now c.args.to c.args.memory.now c.requires.long (λ i. (c.slice_known-1.given i).fits) in
    tells q Describe c.in-Describe.is refl (c.describe.ensures _ q.service _)

pub returns-in-DescribeBriefly : goal.returns-in-DescribeBriefly
returns-in-DescribeBriefly c =
    let q = asked c.args.service c.args.state.now c.args.to c.args.memory.now c.requires.long (λ i. (c.slice_known-1.given i).fits) in
    tells q DescribeBriefly c.in-DescribeBriefly.is refl (c.describe_briefly.ensures _ q.service _)

pub returns-in-Read : goal.returns-in-Read
returns-in-Read c =
    let q = asked c.args.service c.args.state.now c.args.to c.args.memory.now c.requires.long (λ i. (c.slice_known-1.given i).fits) in
    tells q Read c.in-Read.is refl (c.read.ensures _ refl)

pub returns-in-ReadScope : goal.returns-in-ReadScope
returns-in-ReadScope c =
    let q = asked c.args.service c.args.state.now c.args.to c.args.memory.now c.requires.long (λ i. (c.slice_known-1.given i).fits) in
    tells q ReadScope c.in-ReadScope.is refl (c.read_scope.ensures q.service _)

pub returns-in-QueryBuffer : goal.returns-in-QueryBuffer
returns-in-QueryBuffer c =
    let q = asked c.args.service c.args.state.now c.args.to c.args.memory.now c.requires.long (λ i. (c.slice_known-1.given i).fits) in
    tells q QueryBuffer c.in-QueryBuffer.is refl (c.query_buffer.ensures _ _)

pub returns-in-CommandResult : goal.returns-in-CommandResult
returns-in-CommandResult c =
    let q = asked c.args.service c.args.state.now c.args.to c.args.memory.now c.requires.long (λ i. (c.slice_known-1.given i).fits) in
    tells q CommandResult c.in-CommandResult.is refl (search rules)

pub returns-in-TellTable : goal.returns-in-TellTable
returns-in-TellTable c =
    let q = asked c.args.service c.args.state.now c.args.to c.args.memory.now c.requires.long (λ i. (c.slice_known-1.given i).fits) in
    tells q TellTable c.in-TellTable.is refl (search rules)

pub returns-in-MeasureString : goal.returns-in-MeasureString
returns-in-MeasureString c =
    let q = asked c.args.service c.args.state.now c.args.to c.args.memory.now c.requires.long (λ i. (c.slice_known-1.given i).fits) in
    tells q MeasureString c.in-MeasureString.is refl (c.measure_string.ensures _ refl)

-- where the arms meet that have a status to tell
pub returns : goal.returns
returns c =
    let q = asked c.args.service c.args.state.now c.args.to c.args.memory.now c.requires.long (λ i. (c.slice_known-1.given i).fits) in
    let settled : Settles (served (gate_of (decoded_instruments q.block) q.memory) q.service q.body) (instruments_after q.service.operation (decoded_instruments q.block) q.service q.body) q.block (outcome_number c.match-operation.outcome) c.match-operation.state c.match-operation.memory =
    elim c.match-operation.branch [
      | in-Unserved w ↦ met q (ap outcome_number w.outcome-is) w.state-is w.memory-is (says q Unserved w.in-Unserved.is refl not_served (unserved_says _ q.service q.body))
      | in-Write w ↦ met q (ap outcome_number w.outcome-is) w.state-is w.memory-is (wrote q Write w.in-Write.is refl (outcome_number w.write-outcome.result) _ (w.write-outcome.ensures _ refl))
      | in-WriteMasked w ↦ met q (ap outcome_number w.outcome-is) w.state-is w.memory-is (wrote q WriteMasked w.in-WriteMasked.is refl (outcome_number w.write_masked-outcome.result) _ (w.write_masked-outcome.ensures _ refl))
      | in-SetUpScope w ↦ met q (ap outcome_number w.outcome-is) w.state-is w.memory-is (settles q SetUpScope w.in-SetUpScope.is (outcome_number w.set_up_scope-outcome.result) _ _ (w.set_up_scope-outcome.ensures _))
      | in-PrepareAndStart w ↦ met q (ap outcome_number w.outcome-is) w.state-is w.memory-is (settles q PrepareAndStart w.in-PrepareAndStart.is (outcome_number w.prepare_and_start-outcome.result) _ _ (w.prepare_and_start-outcome.ensures _))
      | in-Start w ↦ met q (ap outcome_number w.outcome-is) w.state-is w.memory-is (settles q Start w.in-Start.is (outcome_number w.start-outcome.result) _ _ (w.start-outcome.ensures _ q.service _))
      | in-Stop w ↦ met q (ap outcome_number w.outcome-is) w.state-is w.memory-is (settles q Stop w.in-Stop.is (outcome_number w.stop-outcome.result) _ _ (w.stop-outcome.ensures _ q.service _))
      | in-Status w ↦ met q (ap outcome_number w.outcome-is) w.state-is w.memory-is (says q Status w.in-Status.is refl (status_number w.status.result) (w.status.ensures _ q.service _))
      | in-SendCommand w ↦ met q (ap outcome_number w.outcome-is) w.state-is w.memory-is (settles q SendCommand w.in-SendCommand.is (outcome_number w.send_command-outcome.result) _ _ (w.send_command-outcome.ensures _ q.service))
    ] in
    settled_told q c.outcome_number.result (met q c.outcome_number.ensures refl refl settled) c.status_alone.ensures
