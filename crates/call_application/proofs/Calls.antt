-- A collection and a report, refused and taken.
use mathlib.Core.Path.{◌≡◌, refl, sym, ◌∙◌}
use mathlib.Core.List.{List}
use Prim.Native.Nat.{ℕ, ◌<◌, ◌≤◌}
use borrow.Author.Tests.{eq-eqb, ne_eqb}
use lib.ListN.{length, get_or}
use lib.Seq.{sets}
use Rattle.document.specs.Numbers.{taken}
use Rattle.application_state.specs.State.{Command, ended_command}
use Rattle.state_parts.specs.State.{with_application}
use Rattle.state_block.specs.Places.{state_length}
use Rattle.state_block.specs.Layout.{decoded_application, decoded, encoded, decoded_instruments}
use Rattle.state_block.proofs.Stored.{instruments_stored}
use Rattle.application_block.specs.Stored.{Stored, Collects}
use Rattle.call_checks.specs.Promises.{collect_number, report_number}
use Rattle.call_application.specs.Promises.{with_command, CollectDone, ReportDone}

module _ (block : List ℕ) where
  -- a command stored is the encoding of a state with that command
  command_stored : state_length ≤ length block → ((i : ℕ) → get_or block i 0 < 256) → (c : Command) (after : List ℕ) → Stored block c after
      → after ≡ sets block 0 (encoded (with_command (decoded block) c))
  command_stored long small c after s =
      s ∙ instruments_stored block long small (with_application (decoded_instruments block) c)

  module _ (buffer : List ℕ) where
    pub collect_refused : (k : ℕ) → k ≡ collect_number block buffer → (k ≡ taken → ⊥)
        → CollectDone block buffer (record { refusal = k; length = 0 }) block buffer
    collect_refused k e some =
        let refused = ne_eqb (collect_number block buffer) taken (λ z. some (e ∙ z)) in
        record { result = rw (refused, e) refl; state = rw refused refl; buffer_told = rw refused refl }

    pub collect_taken : state_length ≤ length block → ((i : ℕ) → get_or block i 0 < 256) → collect_number block buffer ≡ taken
        → (n : ℕ) (after told : List ℕ) → Collects block buffer n after told
        → CollectDone block buffer (record { refusal = taken; length = n }) after told
    collect_taken long small fine n after told did =
        let none = eq-eqb (collect_number block buffer) taken fine in
        record {
          result = rw (none, did.result) refl;
          state = rw none (command_stored long small _ after did.state);
          buffer_told = rw none did.buffer_told;
        }

  module _ (result : ℕ) where
    pub report_refused : (k : ℕ) → k ≡ report_number block result → (k ≡ taken → ⊥) → ReportDone block result k block
    report_refused k e some =
        let refused = ne_eqb (report_number block result) taken (λ z. some (e ∙ z)) in
        record { number = e; state = rw refused refl }

    pub report_taken : state_length ≤ length block → ((i : ℕ) → get_or block i 0 < 256) → report_number block result ≡ taken
        → (after : List ℕ) → Stored block (ended_command result (decoded_application block)) after → ReportDone block result taken after
    report_taken long small fine after did =
        let none = eq-eqb (report_number block result) taken fine in
        record { number = sym fine; state = rw none (command_stored long small _ after did) }
