-- A fresh link and a well-formed message on the wire give exactly what the definition answers to it.
use mathlib.Core.Path.{◌≡◌, refl, sym, ap, ◌∙◌}
use mathlib.Core.Bool.{true}
use mathlib.Core.List.{List, [], ◌∷◌, ◌++◌, map}
use Prim.Native.Nat.{ℕ}
use Rattle.document.specs.Message.{Message, well_formed, on_wire}
use Rattle.document.specs.Gate.{Gate}
use Rattle.document.specs.Commands.{answered}
use Rattle.document.specs.Happenings.{Happening, Since, after, after_all, from_reset}
use Rattle.document.specs.Happenings.Happening.{byte}
use Rattle.line_wire.proofs.Pairing.{reset}
use Rattle.laws_happenings.specs.Bytes.{bytes_of, beside_bytes}
use Rattle.laws_happenings.proofs.Happened.{before_last, at_last}

-- ---- bytes that come alone

bytes_alone : (bs : List ℕ) → bytes_of (map byte bs) ≡ bs
bytes_alone [] = refl
bytes_alone (b ∷ bs) = ap (λ (l : List ℕ). b ∷ l) (bytes_alone bs)

nothing_beside : (bs : List ℕ) → beside_bytes (map byte bs) ≡ []
nothing_beside [] = refl
nothing_beside (b ∷ bs) = nothing_beside bs

last_byte : (bs : List ℕ) (b : ℕ) (s : Since) → after_all s (map byte (bs ++ (b ∷ []))) ≡ after (after_all s (map byte bs)) (byte b)
last_byte [] b s = refl
last_byte (c ∷ bs) b s = last_byte bs b (after s (byte c))

-- what is sent has a last byte
record Ending (bs : List ℕ) : Type 0 where
  front : List ℕ
  last : ℕ
  there : bs ≡ front ++ (last ∷ [])

ending : (b : ℕ) (bs : List ℕ) → Ending (b ∷ bs)
ending b [] = record { front = []; last = b; there = refl }
ending b (c ∷ bs) =
    let rest = ending c bs in
    record { front = b ∷ rest.front; last = rest.last; there = ap (λ (l : List ℕ). b ∷ l) rest.there }

sent : (m : Message) → Ending (on_wire m)
unfolding on_wire
sent m = ending _ _

pub fresh_answers : (g : Gate) (m : Message) → well_formed m ≡ true
    → after_all (from_reset g) (map byte (on_wire m)) ≡ record { bytes = on_wire m; gate = (answered g m).gate; answers = (answered g m).answer ∷ [] }
fresh_answers g m formed =
    let e = sent m in
    let hs : List Happening = map byte e.front in
    let wire : on_wire m ≡ bytes_of hs ++ (e.last ∷ []) = e.there ∙ ap (λ (l : List ℕ). l ++ (e.last ∷ [])) (sym (bytes_alone e.front)) in
    let same : (after_all (from_reset g) hs).gate ≡ g =
    ap (λ (s : Since). s.gate) (before_last m formed (from_reset g) reset hs e.last wire)
    ∙ ap (λ (l : List Happening). (after_all (from_reset g) l).gate) (nothing_beside e.front) in
    ap (λ (l : List ℕ). after_all (from_reset g) (map byte l)) e.there
    ∙ last_byte e.front e.last (from_reset g)
    ∙ at_last m formed (from_reset g) reset hs e.last wire
    ∙ (λ i. record { bytes = on_wire m; gate = (answered (same i) m).gate; answers = (answered (same i) m).answer ∷ [] })
