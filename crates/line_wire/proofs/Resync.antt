-- Resynchronising: behind any bytes that leave no 0x2B waiting, a well-formed message is found at its last byte, and
-- nothing at any byte of it before. Behind a well-formed message no 0x2B waits, whatever came before it.
use Prim.Native.Nat.{ℕ}
use mathlib.Core.Path.{◌≡◌, refl, ◌∙◌, ap}
use mathlib.Core.List.{List, [], ◌∷◌, ◌++◌, foldl, foldl-append}
use mathlib.Core.Bool.{Bool, true, false}
use lib.Dec.{eqb}
use Rattle.document.specs.Doubling.{stuffed}
use Rattle.document.specs.Message.{Message, well_formed, on_wire, finished_by}
use Rattle.document.proofs.Cases.{split}
use Rattle.line_wire.proofs.Pairing.{waits_behind, waits_after, framed}
use Rattle.line_wire.proofs.Machine.{finished_found}
use Rattle.line_wire.proofs.Frames.{found_last, found_before, literals, message_frame, command_other}

module _ (m : Message) (formed : well_formed m ≡ true) (bs : List ℕ) (settled : waits_after bs ≡ false) where
  pub message_last : (front : List ℕ) (b : ℕ) → on_wire m ≡ front ++ (b ∷ []) → finished_by (bs ++ front) b ≡ m ∷ []
  unfolding on_wire
  message_last front b e = finished_found (bs ++ front) b ∙ found_last (message_frame m formed) bs settled front b e

  pub message_before : (front : List ℕ) (b d : ℕ) (rest : List ℕ) → on_wire m ≡ front ++ (b ∷ d ∷ rest) →
      finished_by (bs ++ front) b ≡ []
  unfolding on_wire
  message_before front b d rest e =
      finished_found (bs ++ front) b ∙ found_before (message_frame m formed) bs settled front b d rest e

-- ---- behind a message
pub none_waits : (waiting : Bool) (b : ℕ) → eqb b 0x2B ≡ false → waits_behind waiting b ≡ false
none_waits waiting b other = rw other refl

pub stuffed_settled : (ls : List ℕ) → foldl waits_behind false (stuffed ls) ≡ false
stuffed_settled [] = refl
stuffed_settled (l ∷ ls) =
    split (eqb l 0x2B)
    (λ plus. rw plus (stuffed_settled ls))
    (λ other. rw other (ap (λ (waiting : Bool). foldl waits_behind waiting (stuffed ls))
    (none_waits false l other) ∙ stuffed_settled ls))

pub framed_settled : (bs : List ℕ) (c : ℕ) (ls : List ℕ) → eqb c 0x2B ≡ false → waits_after (bs ++ framed c ls) ≡ false
unfolding waits_after
framed_settled bs c ls other =
    foldl-append waits_behind false bs (framed c ls)
    ∙ ap (λ (waiting : Bool). foldl waits_behind waiting (stuffed ls)) (none_waits (waits_behind
    (foldl waits_behind false bs) 0x2B) c other)
    ∙ stuffed_settled ls

pub message_settled : (m : Message) → well_formed m ≡ true → (bs : List ℕ) → waits_after (bs ++ on_wire m) ≡ false
unfolding on_wire
message_settled m formed bs = framed_settled bs m.command (literals m) (command_other m formed)
