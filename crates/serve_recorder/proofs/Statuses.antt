-- What is said of the recorder: its own statuses, alone or with the data that they give.
use mathlib.Core.Path.{◌≡◌, refl, sym, ap}
use mathlib.Core.List.{List, ◌++◌}
use Prim.Native.Nat.{ℕ}
use native.Mathlib.Omega.{arith}
use Rattle.document.specs.Numbers.{done}
use Rattle.document.specs.Areas.{buffer_begin}
use Rattle.document.specs.Values.{little_endian}
use Rattle.document.specs.Variables.{address_width}
use Rattle.document.specs.Recorder.{Recorder, recorder_absent, is_running, buffer_answer}
use Rattle.document.specs.Recorder.Recorder.{absent, planned}
use Rattle.document.specs.Gate.{Gate, Outcome, says}
use Rattle.document.specs.Refusals.{recorder_set_up_lines, query_lines}
use Rattle.document.specs.Commands.{served, prepare_and_start}
use Rattle.document.specs.declared.Operation.TheVariants.{PrepareAndStart, Start, Stop, Status, QueryBuffer}
use Rattle.document.specs.declared.Service.{Service}
use Rattle.document.proofs.Cases.{split}
use Rattle.recorder_state.specs.Preparing.{prepare_status}
use Rattle.recorder_state.specs.Calls.{start_status, stop_status, status_status, query_status, index_of}
use Rattle.document_outcomes.specs.Known.{known_as}
use Rattle.document_outcomes.proofs.Firsts.{unless_alone, unless_refused, unless_none}
use Rattle.serve_recorder.specs.Operates.{status_alone}

module _ (g : Gate) (s : Service) (body : List ℕ) where
  pub recorder_prepared_lem : status_alone (prepare_status (is_running g.recorder) s.ex body) ≡ (served g (known_as PrepareAndStart s) body).answer
  unfolding served prepare_status
  recorder_prepared_lem = sym (unless_alone g (recorder_set_up_lines g s.ex body) (prepare_and_start g s.ex body) refl)

  pub recorder_started_lem : status_alone (start_status g.recorder) ≡ (served g (known_as Start s) body).answer
  unfolding served
  recorder_started_lem = split (recorder_absent g.recorder) (λ none. rw none refl) (λ some. rw some refl)

  pub recorder_stopped_lem : status_alone (stop_status g.recorder) ≡ (served g (known_as Stop s) body).answer
  unfolding served
  recorder_stopped_lem = split (recorder_absent g.recorder) (λ none. rw none refl) (λ some. rw some refl)

  pub recorder_asked : status_alone (status_status g.recorder) ≡ (served g (known_as Status s) body).answer
  unfolding served
  recorder_asked = split (recorder_absent g.recorder) (λ none. rw none refl) (λ some. rw some refl)

  -- ---- the buffer query

  told : Outcome
  told = says g done (buffer_answer (address_width s.ex) g.recorder)

  pub query_refused : (query_status g.recorder ≡ done → ⊥) → status_alone (query_status g.recorder) ≡ (served g (known_as QueryBuffer s) body).answer
  unfolding served told
  query_refused wrong = sym (ap (λ (o : Outcome). o.answer) (unless_refused g (query_lines g) told wrong))

  pub query_answered : query_status g.recorder ≡ done
      → record { status = done; body = buffer_answer (address_width s.ex) g.recorder } ≡ (served g (known_as QueryBuffer s) body).answer
  unfolding served told
  query_answered right = sym (ap (λ (o : Outcome). o.answer) (unless_none g (query_lines g) told right))

-- what is set up has a buffer and an index
pub buffer_bytes : (n : ℕ) (r : Recorder) → query_status r ≡ done → little_endian n buffer_begin ++ little_endian 2 (index_of r) ≡ buffer_answer n r
buffer_bytes n absent e = absurd (omega (arith, e))
buffer_bytes n (planned p r) e = refl
