-- "the two in a row" (2026-06): a start of the recorder that was just stored leaves the setup that the document says.
use mathlib.Core.Path.{◌≡◌, ap, ◌∙◌}
use mathlib.Core.Bool.{Bool}
use mathlib.Core.List.{List}
use Prim.Native.Nat.{ℕ, ◌<◌, ◌≤◌}
use native.Mathlib.Omega.{arith}
use lib.ListN.{length, get_or, length-append}
use lib.Seq.{sets}
use Rattle.document.specs.Numbers.{done}
use Rattle.document.specs.Bytes.{AllBytes}
use Rattle.document.specs.Commands.{served}
use Rattle.document.specs.declared.Service.{Service}
use Rattle.document.specs.declared.Operation.TheVariants.{Start}
use Rattle.recorder_state.specs.Calls.{started_state}
use Rattle.recorder_state.specs.Preparing.{prepared_state}
use Rattle.document_outcomes.specs.Known.{known_as}
use Rattle.state_parts.specs.State.{Instruments, gate_of, with_recorder}
use Rattle.state_parts.proofs.Fits.{prepared_fit}
use Rattle.state_byte.specs.After.{instruments_after}
use Rattle.bytes_fields.proofs.Ranges.{sets_over}
use Rattle.state_block.specs.Places.{scope_place, state_length}
use Rattle.state_block.specs.Layout.{decoded_instruments, encoded_instruments}
use Rattle.state_block.proofs.Parts.{recorder_length_lem}
use Rattle.state_block.proofs.Lent.{lent_fits, instruments_back}
use Rattle.serve_recorder.specs.Operates.{status_alone, Settles}

module _ (block : List ℕ) (long : state_length ≤ length block) (small : (i : ℕ) → get_or block i 0 < 256) (ex : Bool) (body : List ℕ) (all : AllBytes body) where
  abbrev pub next : Instruments
  next = with_recorder (decoded_instruments block) (prepared_state ex body)

  abbrev pub last : Instruments
  last = with_recorder (decoded_instruments block) (started_state (prepared_state ex body))

  -- the block between the two
  abbrev pub between : List ℕ
  between = sets block scope_place (encoded_instruments next)

  there : decoded_instruments between ≡ next
  there =
      let fits = lent_fits block long small in
      instruments_back block long small next
      (record { body = fits.body; scope = fits.scope; recorder = prepared_fit ex body all; application = fits.application; tables = fits.tables })

  as_long : length (encoded_instruments next) ≤ length (encoded_instruments last)
  as_long =
      let eight = (prepared_fit ex body all).plan.variables.eight in
      simp length-append (omega (arith, recorder_length_lem (prepared_state ex body) eight, recorder_length_lem (started_state (prepared_state ex body)) eight))

  module _ (memory : List ℕ) (s : Service) (any : List ℕ) (status : ℕ) (after : List ℕ)
      (did : Settles (served (gate_of (decoded_instruments between) memory) (known_as Start s) any) (instruments_after Start (decoded_instruments between) s any) between status after memory) where
    pub started_done : status_alone status ≡ status_alone done
    unfolding served
    started_done = did.answer ∙ ap (λ (k : Instruments). (served (gate_of k memory) (known_as Start s) any).answer) there

    pub started_stored : after ≡ sets block scope_place (encoded_instruments last)
    started_stored =
        did.kept
        ∙ ap (λ (k : Instruments). sets between scope_place (encoded_instruments (with_recorder k (started_state k.recorder)))) there
        ∙ sets_over (encoded_instruments next) (encoded_instruments last) block scope_place as_long
