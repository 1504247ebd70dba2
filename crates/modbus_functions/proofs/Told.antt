-- An answer's front is that of the frame; and what a reading without exception may rely on.
use mathlib.Core.Path.{◌≡◌, refl, sym, ap, subst, ◌∙◌}
use mathlib.Core.List.{List, [], ◌∷◌}
use Prim.Native.Nat.{ℕ, suc, ◌+◌, ◌-◌, ◌*◌, ◌≤◌}
use native.Mathlib.Omega.{arith}
use borrow.Author.Tests.{leb-true, not-false}
use lib.ListN.{length, take, drop, length-drop}
use lib.Seq.{sets, length-take-le}
use Rattle.document.specs.Numbers.{done}
use Rattle.document.specs.Areas.{bytes_at, may_be_read}
use Rattle.document.specs.Frames.{station_in, function_byte, first_in, quantity_in}
use Rattle.document.specs.Registers.{turned, registers_at}
use Rattle.document.specs.Modbus.{exception_to, function_data}
use Rattle.document.specs.declared.Function.{Function}
use Rattle.document.specs.declared.Function.TheVariants.{ReadRegisters}
use Rattle.modbus_registers.proofs.Turns.{turned_length}
use Rattle.modbus_frames.proofs.Order.{accepted}
use Rattle.modbus_functions.specs.Put.{Put}

pub head_and : (n : ℕ) (frame : List ℕ) → 2 ≤ length frame → take (suc (suc n)) frame ≡ station_in frame ∷ function_byte frame ∷ bytes_at frame 2 n
head_and n [] h = let z : ⊥ = omega arith in absurd z
head_and n (a ∷ []) h = let z : ⊥ = omega arith in absurd z
head_and n (a ∷ b ∷ rest) h = refl

pub front_told : (n : ℕ) (frame out after : List ℕ) (r : ℕ) → 2 ≤ length frame → Put (take (suc (suc n)) frame) out r after → Put (station_in frame ∷ function_byte frame ∷ bytes_at frame 2 n) out r after
front_told n frame out after r h p = subst (λ (l : List ℕ). Put l out r after) (head_and n frame h) p

-- by the function that a frame asks for
pub told_as : {f g : Function} → f ≡ g → (frame memory out after : List ℕ) (r : ℕ) → Put (station_in frame ∷ function_byte frame ∷ function_data g frame memory) out r after
    → Put (station_in frame ∷ function_byte frame ∷ function_data f frame memory) out r after
told_as same frame memory out after r p =
    subst (λ (f : Function). Put (station_in frame ∷ function_byte frame ∷ function_data f frame memory) out r after) (sym same) p

pub reads_inside : (frame memory : List ℕ) → exception_to ReadRegisters frame memory ≡ done → 2 * first_in frame + 2 * quantity_in frame ≤ 16384
reads_inside frame memory none =
    let may = (accepted ReadRegisters frame memory none).address in
    leb-true (2 * first_in frame + 2 * quantity_in frame) 16384 (not-false (may_be_read (2 * first_in frame) (2 * quantity_in frame)) may)

-- ---- registers are told

-- the part of the memory that is lent
pub part : (memory : List ℕ) (first quantity : ℕ) → take (2 * first + 2 * quantity - 2 * first) (drop (2 * first) memory) ≡ bytes_at memory (2 * first) (2 * quantity)
part memory first quantity =
    let n : 2 * first + 2 * quantity - 2 * first ≡ 2 * quantity = omega arith in
    ap (λ (k : ℕ). take k (drop (2 * first) memory)) n

pub part_length : (memory : List ℕ) (first quantity : ℕ) → 2 * first + 2 * quantity ≤ length memory → length (bytes_at memory (2 * first) (2 * quantity)) ≡ 2 * quantity
part_length memory first quantity inside =
    length-take-le (2 * quantity) (drop (2 * first) memory) (rw length-drop (omega arith))

pub registers_told : (frame memory out left : List ℕ) (first quantity : ℕ) → first ≡ first_in frame → quantity ≡ quantity_in frame → 2 * first + 2 * quantity ≤ length memory
    → left ≡ sets out 0 (station_in frame ∷ function_byte frame ∷ 2 * quantity ∷ turned (take (2 * first + 2 * quantity - 2 * first) (drop (2 * first) memory)))
    → Put (station_in frame ∷ function_byte frame ∷ function_data ReadRegisters frame memory) out (3 + 2 * quantity) left
registers_told frame memory out left first quantity ef eq inside e =
    let head : List ℕ → List ℕ = λ (registers : List ℕ). station_in frame ∷ function_byte frame ∷ registers in
    let same : 2 * quantity ∷ turned (take (2 * first + 2 * quantity - 2 * first) (drop (2 * first) memory)) ≡ function_data ReadRegisters frame memory =
    ap (λ (l : List ℕ). 2 * quantity ∷ turned l) (part memory first quantity) ∙ (λ i. 2 * eq i ∷ registers_at memory (ef i) (eq i))
    in
    let count : length (registers_at memory first quantity) ≡ 2 * quantity =
    turned_length quantity (bytes_at memory (2 * first) (2 * quantity)) (part_length memory first quantity inside)
    in
    let counted : length (registers_at memory (first_in frame) (quantity_in frame)) ≡ 2 * quantity =
    sym (λ i. length (registers_at memory (ef i) (eq i))) ∙ count
    in
    record { length = omega arith; buffer = e ∙ ap (λ (l : List ℕ). sets out 0 (head l)) same }
