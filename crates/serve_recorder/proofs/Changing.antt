-- A command that changes scope or recorder and says a status alone.
use mathlib.Core.Path.{◌≡◌, refl, sym, ap, ◌∙◌}
use mathlib.Core.Bool.{Bool, true, false, cond}
use mathlib.Core.List.{List}
use Prim.Native.Nat.{ℕ, ◌<◌, ◌≤◌}
use lib.Dec.{eqb}
use lib.ListN.{length, get_or}
use lib.Seq.{sets}
use Rattle.document.specs.Numbers.{done}
use Rattle.document.specs.Run.{started}
use Rattle.document.specs.Commands.{served}
use Rattle.document.specs.declared.Operation.{Operation}
use Rattle.document.specs.declared.Service.{Service}
use Rattle.document.proofs.Cases.{split}
use Rattle.codes_table.specs.declared.statuses.Status.{Status}
use Rattle.codes_table.specs.declared.statuses.Status.TheVariants.{RecorderRuns, RecorderStopped, NotServed, SumWrong, MessageTooLong, AnswerTooLong, LayoutWrong, SizeWrong, Busy, NotSetUp, RangeWrong}
use Rattle.codes_table.specs.Statuses.{status_number}
use Rattle.recorder_runs.specs.State.{halted_run}
use Rattle.recorder_state.specs.declared.state.Recorder.{Recorder}
use Rattle.recorder_state.specs.State.{recorder_of, with_run}
use Rattle.recorder_state.specs.Calls.{start_status, stop_status, started_state, halted_state}
use Rattle.document_outcomes.specs.Known.{known_as}
use Rattle.document_outcomes.specs.Changes.{change_of, leaves_memory}
use Rattle.document_outcomes.proofs.Served.{served_memory_kept}
use Rattle.state_parts.specs.State.{Instruments, gate_of, with_recorder}
use Rattle.state_byte.specs.After.{instruments_after}
use Rattle.state_block.specs.Places.{scope_place, state_length}
use Rattle.state_block.specs.Layout.{decoded_recorder, decoded_instruments, encoded_instruments}
use Rattle.state_block.proofs.Stored.{same_instruments}
use Rattle.serve_recorder.specs.Operates.{status_alone, Settles}

pub settles : (o : Operation) → leaves_memory (change_of o) ≡ true → (block memory : List ℕ) (s : Service) (body : List ℕ) (status : ℕ) (after : List ℕ)
    → status_alone status ≡ (served (gate_of (decoded_instruments block) memory) (known_as o s) body).answer
    → after ≡ sets block scope_place (encoded_instruments (instruments_after o (decoded_instruments block) s body))
    → Settles (served (gate_of (decoded_instruments block) memory) (known_as o s) body) (instruments_after o (decoded_instruments block) s body) block status after memory
settles o leaves block memory s body status after said stored =
    record {
      answer = said;
      memory = sym (served_memory_kept (gate_of (decoded_instruments block) memory) (known_as o s) body leaves);
      kept = stored;
    }

-- what is set up stays, so the block does
pub same_block : (block : List ℕ) → state_length ≤ length block → ((i : ℕ) → get_or block i 0 < 256) → (next : Instruments) → decoded_instruments block ≡ next
    → block ≡ sets block scope_place (encoded_instruments next)
same_block block long small next kept =
    sym (same_instruments block long small) ∙ ap (λ (k : Instruments). sets block scope_place (encoded_instruments k)) kept

-- ---- a refusal

-- no status of a refusal is that of done
pub never_done : (e : Status) → eqb (status_number e) done ≡ false
never_done RecorderRuns = refl
never_done RecorderStopped = refl
never_done NotServed = refl
never_done SumWrong = refl
never_done MessageTooLong = refl
never_done AnswerTooLong = refl
never_done LayoutWrong = refl
never_done SizeWrong = refl
never_done Busy = refl
never_done NotSetUp = refl
never_done RangeWrong = refl

-- what hangs on a status that is not done is as it was
pub refused_kept : {A : Type 0} (e : Status) (k : ℕ) (next kept : A) → status_number e ≡ k → kept ≡ cond (eqb k done) next kept
refused_kept e k next kept h = sym (ap (λ (b : Bool). cond b next kept) (ap (λ (n : ℕ). eqb n done) (sym h) ∙ never_done e))

-- ---- a start and a stop

-- they change the run alone
pub started_run : (r : Recorder) → record { ready = r.ready; plan = r.plan; run = (started_state r).run } ≡ started_state r
started_run r =
    split (eqb (start_status (recorder_of r)) done) (λ begun. rw begun refl) (λ not-begun. rw not-begun refl)

pub halted_run_lem : (r : Recorder) → record { ready = r.ready; plan = r.plan; run = (halted_state r).run } ≡ halted_state r
halted_run_lem r =
    split (eqb (stop_status (recorder_of r)) done) (λ halts. rw halts refl) (λ stays. rw stays refl)

-- refused, they leave the block, and with it all that is set up
module _ (block : List ℕ) (long : state_length ≤ length block) (small : (i : ℕ) → get_or block i 0 < 256) (e : Status) where
  pub start_refused : status_number e ≡ start_status (recorder_of (decoded_recorder block))
      → block ≡ sets block scope_place (encoded_instruments (with_recorder (decoded_instruments block) (started_state (decoded_recorder block))))
  start_refused h =
      same_block block long small _
      (ap (with_recorder (decoded_instruments block)) (refused_kept e (start_status (recorder_of (decoded_recorder block))) (with_run (decoded_recorder block) started) (decoded_recorder block) h))

  pub stop_refused : status_number e ≡ stop_status (recorder_of (decoded_recorder block))
      → block ≡ sets block scope_place (encoded_instruments (with_recorder (decoded_instruments block) (halted_state (decoded_recorder block))))
  stop_refused h =
      let r = decoded_recorder block in
      same_block block long small _
      (ap (with_recorder (decoded_instruments block)) (refused_kept e (stop_status (recorder_of r)) (record { ready = r.ready; plan = r.plan; run = halted_run r.run }) r h))
