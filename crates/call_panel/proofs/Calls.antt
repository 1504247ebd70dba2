-- A preparing and a start, refused and taken.
use mathlib.Core.Path.{◌≡◌, refl, ap, ◌∙◌}
use mathlib.Core.List.{List, []}
use Prim.Native.Nat.{ℕ, ◌<◌, ◌≤◌}
use borrow.Author.Tests.{eq-eqb, ne_eqb}
use lib.ListN.{length, get_or}
use lib.Seq.{sets}
use Rattle.document.specs.Numbers.{not_served, taken}
use Rattle.document.specs.Services.{service_of}
use Rattle.document.specs.Gate.{Outcome}
use Rattle.document.specs.Commands.{served}
use Rattle.document.specs.declared.Operation.TheVariants.{Start}
use Rattle.document.specs.declared.Service.{Service}
use Rattle.document_outcomes.specs.Known.{known_as}
use Rattle.recorder_state.specs.State.{recorder_of}
use Rattle.state_parts.specs.State.{gate_of, with_recorder}
use Rattle.state_byte.specs.After.{instruments_after}
use Rattle.state_block.specs.Places.{scope_place, state_length}
use Rattle.state_block.specs.Layout.{decoded_recorder, decoded_instruments, encoded_instruments}
use Rattle.state_block.proofs.Stored.{instruments_stored}
use Rattle.serve_recorder.specs.Operates.{Settles}
use Rattle.call_checks.specs.Promises.{panel_number}
use Rattle.call_panel.specs.Promises.{given_status, given_next, PrepareDone, StartDone}
use Rattle.call_panel.proofs.Told.{given_said, start_said}

-- the service of 0xC1
abbrev start : Service
start = service_of 0xC1

module _ (block : List ℕ) where
  -- ---- refused with a number

  module _ (k : ℕ) (e : k ≡ panel_number block) (some : k ≡ taken → ⊥) where
    pub prepare_refused : (setup : List ℕ) → PrepareDone block setup (record { refusal = k; status = not_served }) block
    prepare_refused setup =
        let refused = ne_eqb (panel_number block) taken (λ z. some (e ∙ z)) in
        record { result = λ memory. rw (refused, e) refl; state = rw refused refl }

    pub start_refused : StartDone block (record { refusal = k; status = not_served }) block
    start_refused =
        let refused = ne_eqb (panel_number block) taken (λ z. some (e ∙ z)) in
        record { result = λ memory. rw (refused, e) refl; state = rw refused refl }

  -- ---- taken

  module _ (fine : panel_number block ≡ taken) (long : state_length ≤ length block) (small : (i : ℕ) → get_or block i 0 < 256) (status : ℕ) (after : List ℕ) where
    pub prepare_taken : (setup : List ℕ) → status ≡ given_status (recorder_of (decoded_recorder block)) setup
        → after ≡ sets block scope_place (encoded_instruments (with_recorder (decoded_instruments block) (given_next (decoded_recorder block) setup)))
        → PrepareDone block setup (record { refusal = taken; status = status }) after
    prepare_taken setup said stored =
        let none = eq-eqb (panel_number block) taken fine in
        record {
          result = λ memory. rw none (λ i. record { refusal = taken; status = (said ∙ given_said (gate_of (decoded_instruments block) memory) setup) i });
          state = rw none (stored ∙ instruments_stored block long small _);
        }

    pub start_taken : ((memory : List ℕ) (s : Service) (body : List ℕ) → Settles (served (gate_of (decoded_instruments block) memory) (known_as Start s) body) (instruments_after Start (decoded_instruments block) s body) block status after memory)
        → StartDone block (record { refusal = taken; status = status }) after
    start_taken did =
        let none = eq-eqb (panel_number block) taken fine in
        record {
          result = λ memory. rw none (λ i. record { refusal = taken; status = (((did memory start []).answer ∙ ap (λ (o : Outcome). o.answer) (start_said (gate_of (decoded_instruments block) memory) start [])) i).status });
          state = rw none ((did [] start []).kept ∙ instruments_stored block long small _);
        }
