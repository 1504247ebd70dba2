-- A message behind whatever happened since reset, answered as a fresh link would; and nothing by half. `Demands` quotes the demand.
use mathlib.Core.Path.{◌≡◌, sym, ap, ◌∙◌}
use mathlib.Core.List.{List, [], ◌∷◌, ◌++◌}
use Prim.Native.Nat.{ℕ}
use Rattle.document.specs.Message.{Message}
use Rattle.document.specs.Answer.{Answer, answer_on_wire}
use Rattle.document.specs.Gate.{Gate}
use Rattle.document.specs.Commands.{answered}
use Rattle.document.specs.Happenings.{Happening, Since, after, after_all}
use Rattle.document.specs.Happenings.Happening.{byte}
use Rattle.document.specs.Blocks.{answers_on_wire}
use Rattle.laws_happenings.proofs.Blocks.{wire_one}
use Rattle.laws_happenings.specs.Bytes.{Bytes, beside_bytes}
use Rattle.laws_happenings.specs.Resync.{Resynchronised, ByHalf}
use Rattle.laws_happenings.proofs.Resync.{nothing_by_half}
use Rattle.demands.specs.Board.{Board}
use Rattle.demands.specs.AsDefined.{AsDefined}
use Rattle.demands.specs.Fresh.{AnsweredFresh, NothingByHalf}
use Rattle.demands.specs.Fresh.NothingByHalf.{nothing, whole}

-- an answer more, in a board that stands for the definition
one_more : (s : Since) (now : List ℕ) → now ≡ answers_on_wire s.answers → (a b : Answer) → a ≡ b
    → answers_on_wire (s.answers ++ (a ∷ [])) ≡ now ++ answer_on_wire b
one_more s now stands a b e = wire_one s.answers a ∙ (λ j. sym stands j ++ answer_on_wire (e j))

-- a message behind a board that stands for the definition
module _ (start before last : Board) (s : Since) (hs : List Happening) (b : ℕ) (m : Message) (now : AsDefined start s)
    (then : AsDefined before (after_all s hs)) (end : AsDefined last (after (after_all s hs) (byte b))) where
  pub answered_fresh : Resynchronised s hs b m → AnsweredFresh start before last (after_all s (beside_bytes hs)).gate m
  answered_fresh resync =
      record {
        quiet = then.answers ∙ ap answers_on_wire resync.quiet ∙ sym now.answers;
        untouched = then.gate ∙ resync.untouched;
        told =
            end.answers
            ∙ ap answers_on_wire resync.told
            ∙ one_more s start.answers now.answers _ _ (ap (λ (g : Gate). (answered g m).answer) (sym then.gate));
        left = end.gate ∙ resync.left ∙ ap (λ (g : Gate). (answered g m).gate) (sym then.gate);
      }

-- "A command is never carried out unless its whole message, with a right sum, stands in the bytes since one start byte."
module _ (h last : Board) (s : Since) (b : ℕ) (now : AsDefined h s) (end : AsDefined last (after s (byte b))) where
  pub by_half : Bytes (s.bytes ++ (b ∷ [])) → NothingByHalf h last (s.bytes ++ (b ∷ []))
  by_half bytes = by (nothing_by_half s b bytes)
    where
      by : ByHalf s b → NothingByHalf h last (s.bytes ++ (b ∷ []))
      by (ByHalf.nothing quiet same) =
          nothing
          (end.answers ∙ ap answers_on_wire quiet ∙ sym now.answers)
          (end.gate ∙ same ∙ sym now.gate)
      by (ByHalf.whole m ends told left) =
          whole m ends
          (end.answers
          ∙ ap answers_on_wire told
          ∙ one_more s h.answers now.answers _ _ (ap (λ (g : Gate). (answered g m).answer) (sym now.gate)))
          (end.gate ∙ left ∙ ap (λ (g : Gate). (answered g m).gate) (sym now.gate))
