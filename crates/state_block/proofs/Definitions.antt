-- Definitions in a block, one behind the other: read, and kept.
use mathlib.Core.Path.{◌≡◌, refl, ap, ◌∙◌}
use mathlib.Core.Bool.{true}
use mathlib.Core.List.{List, ◌∷◌, ◌++◌}
use Prim.Native.Nat.{ℕ, zero, suc, ◌+◌, ◌-◌, ◌*◌, ◌<◌, ◌≤◌}
use native.Mathlib.Numerals.{add-one}
use native.Mathlib.Omega.{arith}
use lib.ListN.{length, get_or, set, take, drop}
use lib.Seq.{sets, drop-drop}
use Rattle.document.specs.Areas.{bytes_at}
use Rattle.document.specs.declared.Variable.{Variable}
use Rattle.document.specs.Variables.{definition_in, definitions_in}
use Rattle.state_block.specs.Layout.{encoded_definitions}
use Rattle.bytes_fields.proofs.Ranges.{bytes_cons, bytes_append}
use Rattle.bytes_fields.proofs.Numbers.{number_kept}
use Rattle.bytes_fields.proofs.Definitions.{definition_here}

-- ---- read

-- a turn of the reading
pub definitions_read : (part : List ℕ) (from k : ℕ) (list : List Variable) (v : Variable) → k < 8 → v ≡ definition_in true (drop (from + k * 5) part)
    → sets (set list k v) (k + 1) (definitions_in true (8 - (k + 1)) (drop (from + (k + 1) * 5) part)) ≡ sets list k (definitions_in true (8 - k) (drop (from + k * 5) part))
definitions_read part from k list v h e =
    let m : 8 - k ≡ suc (8 - (k + 1)) = omega arith in
    let next : from + (k + 1) * 5 ≡ from + k * 5 + 5 = omega arith in
    rw (e, m, next, add-one k, drop-drop 5 (from + k * 5) part)

-- the first few of eight
pub definitions_take : (count n : ℕ) (part : List ℕ) → count ≤ n → take count (definitions_in true n part) ≡ definitions_in true count part
definitions_take zero n part h = refl
definitions_take (suc count) zero part h = let z : ⊥ = omega arith in absurd z
definitions_take (suc count) (suc n) part h =
    ap (λ (vs : List Variable). definition_in true part ∷ vs) (definitions_take count n (drop 5 part) (omega arith))

-- ---- kept

-- what was read is kept in the bytes that it was read from
pub definitions_kept : (n : ℕ) (l : List ℕ) (at : ℕ) → ((i : ℕ) → get_or l i 0 < 256) → at + n * 5 ≤ length l
    → encoded_definitions (definitions_in true n (drop at l)) ≡ bytes_at l at (n * 5)
definitions_kept zero l at small h = refl
definitions_kept (suc n) l at small h =
    (λ i. encoded_definitions (definition_here l at i ∷ definitions_in true n (drop-drop 5 at l i)))
    ∙ (λ i. get_or l at 0 ∷ number_kept l small (at + 1) 4 (omega arith) i ++ definitions_kept n l (at + 5) small (omega arith) i)
    ∙ ap (λ (r : List ℕ). get_or l at 0 ∷ r) (joined ∙ ap (λ (k : ℕ). bytes_at l k (4 + n * 5)) next)
    ∙ bytes_cons l at (4 + n * 5) (omega arith)
    ∙ ap (bytes_at l at) whole
  where
    next : at + 1 ≡ suc at
    next = omega arith

    joined : bytes_at l (at + 1) 4 ++ bytes_at l (at + 5) (n * 5) ≡ bytes_at l (at + 1) (4 + n * 5)
    joined =
        let e : at + 5 ≡ at + 1 + 4 = omega arith in
        ap (λ (k : ℕ). bytes_at l (at + 1) 4 ++ bytes_at l k (n * 5)) e ∙ bytes_append l (at + 1) 4 (n * 5)

    whole : suc (4 + n * 5) ≡ suc n * 5
    whole = omega arith
