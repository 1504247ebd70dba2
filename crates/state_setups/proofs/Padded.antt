-- Definitions with zeros behind them are the definitions as they are kept.
use mathlib.Core.Path.{◌≡◌, refl, sym, ap, ◌∙◌}
use mathlib.Core.Bool.{Bool}
use mathlib.Core.List.{List, [], ◌∷◌, ◌++◌}
use Prim.Native.Nat.{ℕ, zero, suc, ◌+◌, ◌-◌, ◌*◌, ◌≤◌}
use native.Mathlib.Nat.{zero-add}
use native.Mathlib.Omega.{arith}
use lib.ListN.{length, set, drop, replicate, length-replicate, replicate-append-replicate}
use lib.Seq.{sets, sets-eq, drop_at}
use Rattle.document.specs.declared.Variable.{Variable}
use Rattle.document.specs.Values.{little_endian}
use Rattle.document.specs.Variables.{definitions_in, count_in, variables_in}
use Rattle.variables_list.specs.State.{no_variables, kept}
use Rattle.variables_definitions.proofs.Read.{definitions_length_lem}
use Rattle.bytes_fields.proofs.Ranges.{sets_apart}
use Rattle.state_block.specs.Layout.{encoded_definitions, encoded_variables}
use Rattle.state_block.proofs.Parts.{definitions_length_lem as bytes_length, sets_two}

definitions_append : (vs ws : List Variable) → encoded_definitions (vs ++ ws) ≡ encoded_definitions vs ++ encoded_definitions ws
definitions_append [] ws = refl
definitions_append (v ∷ vs) ws = ap (λ (l : List ℕ). v.size ∷ little_endian 4 v.address ++ l) (definitions_append vs ws)

abbrev none : Variable
none = record { address = 0; size = 0 }

-- as many as are left behind the first few
rest : (few all : ℕ) → few ≤ all → drop few (replicate all none) ≡ replicate (all - few) none
rest few all h =
    let e : all ≡ few + (all - few) = omega arith in
    ap (λ (n : ℕ). drop few (replicate n none)) e
    ∙ ap (drop few) (sym (replicate-append-replicate few (all - few) none))
    ∙ drop_at (replicate few none) (replicate (all - few) none) few (length-replicate few none)

zeros : (n : ℕ) → encoded_definitions (replicate n none) ≡ replicate (n * 5) 0
zeros zero = refl
zeros (suc n) =
    let five : suc n * 5 ≡ suc (suc (suc (suc (suc (n * 5))))) = omega arith in
    rw five (ap (λ (l : List ℕ). 0 ∷ 0 ∷ 0 ∷ 0 ∷ 0 ∷ l) (zeros n))

padded : (vs : List Variable) → length vs ≤ 8 → encoded_definitions (sets no_variables 0 vs) ≡ encoded_definitions vs ++ replicate ((8 - length vs) * 5) 0
padded vs h =
    ap encoded_definitions (sets-eq vs no_variables 0 (omega arith))
    ∙ ap (λ (k : ℕ). encoded_definitions (vs ++ drop k no_variables)) (zero-add (length vs))
    ∙ definitions_append vs (drop (length vs) no_variables)
    ∙ ap (λ (l : List ℕ). encoded_definitions vs ++ l) (ap encoded_definitions (rest (length vs) 8 h) ∙ zeros (8 - length vs))

-- the definitions, the count in front of them, and zeros behind them
variables_stored : (l : List ℕ) (vs : List Variable) (at n : ℕ) → length vs ≡ n → n ≤ 8
    → sets (set (sets l (at + 1) (encoded_definitions vs)) at n) (at + 1 + n * 5) (replicate ((8 - n) * 5) 0) ≡ sets l at (encoded_variables (kept vs))
variables_stored l vs at n e h =
    let f : at + 1 ≡ suc at = omega arith in
    let bytes = encoded_definitions vs in
    let behind : List ℕ = replicate ((8 - n) * 5) 0 in
    ap (λ (k : List ℕ). sets k (at + 1 + n * 5) behind) (sets_apart bytes (n ∷ []) l (at + 1) at (omega arith))
    ∙ sym (sets_two (set l at n) bytes behind (at + 1) (n * 5) (at + 1 + n * 5) (bytes_length vs ∙ ap (λ (k : ℕ). k * 5) e) refl)
    ∙ (λ i. sets (set l at (sym e i)) (f i) (bytes ++ replicate ((8 - sym e i) * 5) 0))
    ∙ ap (sets (set l at (length vs)) (suc at)) (sym (padded vs (omega arith)))

-- the same of a part, which begins with its count
pub part_stored : (ex : Bool) (l part : List ℕ) (at n : ℕ) → n ≡ count_in part → n ≤ 8
    → sets (set (sets l (at + 1) (encoded_definitions (definitions_in ex n (drop 1 part)))) at n) (at + 1 + n * 5) (replicate ((8 - n) * 5) 0)
    ≡ sets l at (encoded_variables (kept (variables_in ex part)))
part_stored ex l part at n counted few =
    variables_stored l (definitions_in ex n (drop 1 part)) at n (definitions_length_lem ex n (drop 1 part)) few
    ∙ ap (λ (k : ℕ). sets l at (encoded_variables (kept (definitions_in ex k (drop 1 part))))) counted
