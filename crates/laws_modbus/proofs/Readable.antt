-- "Register r is bytes 2r and 2r+1, low byte first in memory": what an answer's registers say, and that a write is read back.
use mathlib.Core.Path.{◌≡◌, refl, ap, ◌∙◌}
use mathlib.Core.List.{List, [], ◌∷◌}
use Prim.Native.Nat.{ℕ, zero, suc, ◌+◌, ◌*◌, ◌<◌, ◌≤◌}
use native.Mathlib.Omega.{arith}
use lib.ListN.{length, get_or}
use lib.Seq.{drop-cons}
use Rattle.document.specs.Areas.{bytes_at}
use Rattle.document.specs.Values.{number}
use Rattle.document.specs.Registers.{turned, registers_at, registers_stored}
use Rattle.document.specs.Frames.{word_in}
use Rattle.memory_ranges.proofs.Stored.{bytes_stored}
use Rattle.modbus_registers.proofs.Turns.{turned_length}

-- the first register, and then the others
registers_next : (memory : List ℕ) (first quantity : ℕ) → 2 * first + 2 * suc quantity ≤ length memory
    → registers_at memory first (suc quantity) ≡ get_or memory (suc (2 * first)) 0 ∷ get_or memory (2 * first) 0 ∷ registers_at memory (suc first) quantity
registers_next memory first quantity inside =
    let two : 2 * suc quantity ≡ suc (suc (2 * quantity)) = omega arith in
    let next : 2 * suc first ≡ suc (suc (2 * first)) = omega arith in
    rw (two, next, drop-cons memory (2 * first) 0 (omega arith), drop-cons memory (suc (2 * first)) 0 (omega arith))

register_number_lem : (memory : List ℕ) (r : ℕ) → 2 * r + 2 ≤ length memory → 256 * get_or memory (suc (2 * r)) 0 + get_or memory (2 * r) 0 ≡ number (bytes_at memory (2 * r) 2)
register_number_lem memory r inside =
    rw (drop-cons memory (2 * r) 0 (omega arith), drop-cons memory (suc (2 * r)) 0 (omega arith)) (omega arith)

-- the k-th register of an answer is the number that the two bytes of register first + k hold
pub register_read : (k : ℕ) (memory : List ℕ) (first quantity : ℕ) → k < quantity → 2 * first + 2 * quantity ≤ length memory
    → word_in (registers_at memory first quantity) (2 * k) ≡ number (bytes_at memory (2 * (first + k)) 2)
register_read k memory first zero h inside = let z : ⊥ = omega arith in absurd z
register_read zero memory first (suc quantity) h inside =
    let same : first + 0 ≡ first = omega arith in
    rw (registers_next memory first quantity inside, same) (register_number_lem memory first (omega arith))
register_read (suc k) memory first (suc quantity) h inside =
    let two : 2 * suc k ≡ suc (suc (2 * k)) = omega arith in
    let plus : suc (suc (2 * k)) + 1 ≡ suc (suc (2 * k + 1)) = omega arith in
    let on : first + suc k ≡ suc first + k = omega arith in
    rw (registers_next memory first quantity inside, two, plus, on) (register_read k memory (suc first) quantity (omega arith) (omega arith))

-- ---- a write is read back

turned_twice : (n : ℕ) (l : List ℕ) → length l ≡ 2 * n → turned (turned l) ≡ l
turned_twice zero [] e = refl
turned_twice zero (a ∷ l) e = let z : ⊥ = omega arith in absurd z
turned_twice (suc n) [] e = let z : ⊥ = omega arith in absurd z
turned_twice (suc n) (a ∷ []) e = let z : ⊥ = omega arith in absurd z
turned_twice (suc n) (a ∷ b ∷ l) e = ap (λ (rest : List ℕ). a ∷ b ∷ rest) (turned_twice n l (omega arith))

pub written_read : (memory values : List ℕ) (first quantity : ℕ) → length values ≡ 2 * quantity → 2 * first + 2 * quantity ≤ length memory
    → registers_at (registers_stored memory first values) first quantity ≡ values
written_read memory values first quantity e inside =
    ap turned (bytes_stored (turned values) memory (2 * first) (2 * quantity) (turned_length quantity values e) inside)
    ∙ turned_twice quantity values e
