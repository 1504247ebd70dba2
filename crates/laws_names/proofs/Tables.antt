-- 0x11, index by index, tells every table, and then the end.
use mathlib.Core.Path.{◌≡◌, refl, ap, ◌∙◌}
use mathlib.Core.Bool.{true, false, ◌&&◌}
use mathlib.Core.List.{List, [], ◌∷◌}
use Prim.Native.Nat.{ℕ, zero, suc, ◌+◌, ◌%◌, ◌<◌, ◌≤◌}
use native.Mathlib.Nat.{zero-add}
use native.Mathlib.Omega.{arith}
use borrow.Author.Tests.{ne_eqb, leb-true}
use lib.Dec.{eqb, leb}
use lib.ListN.{length}
use Rattle.document.specs.Areas.{variables_end, calibration_end}
use Rattle.document.specs.Tables.{Table, most_tables, entry_size, is_place_good, table_data, table_answer}
use Rattle.document.specs.Gate.{Gate}
use Rattle.document.specs.Answer.{Answer}
use Rattle.document.proofs.Cases.{both, and_left, and_right}
use Rattle.document.proofs.Values.{number_back}
use Rattle.laws_names.specs.Names.{are_places_good}
use Rattle.laws_names.specs.Steps.{received, table_in, table_asked, is_end, unless_end, tables_asked}
use Rattle.laws_names.proofs.Asked.{table_answered}

-- ---- where a good table lies

pub record Place (t : Table) : Type 0 where
  pub begins : variables_end ≤ t.address
  pub ends : t.address + t.size ≤ calibration_end

pub place : (t : Table) → is_place_good t ≡ true → Place t
place t good =
    let begins = leb variables_end t.address in
    let ends = leb (t.address + t.size) calibration_end in
    let long = leb entry_size t.size in
    let inside = and_left (begins && ends) long (and_left (begins && ends && long) (eqb (t.size % entry_size) 0) good) in
    record {
      begins = leb-true variables_end t.address (and_left begins ends inside);
      ends = leb-true (t.address + t.size) calibration_end (and_right begins ends inside);
    }

-- ---- a table is read from what is told of it, and is not taken for the end

table_back : (t : Table) → Place t → table_in (table_data t) ≡ t
table_back t p =
    let address = number_back 2 t.address (omega (arith, p.ends)) in
    let size = number_back 2 t.size (omega (arith, p.ends)) in
    λ i. record { address = address i; size = size i }

no_end : (t : Table) → Place t → is_end t ≡ false
no_end t p = rw (ne_eqb t.address 0 (λ z. omega (arith, p.begins))) refl

module _ (g : Gate) where
  -- from this index on, the gate tells these tables
  abbrev Tells : ℕ → List Table → Type 0
  Tells index ts = (i : ℕ) → table_answer g.tables (index + i) ≡ table_answer ts i

  tells_behind : (index : ℕ) (t : Table) (ts : List Table) → Tells index (t ∷ ts) → Tells (index + 1) ts
  tells_behind index t ts tells i =
      let e : index + 1 + i ≡ index + suc i = omega arith in
      ap (table_answer g.tables) e ∙ tells (suc i)

  asked_at : (index : ℕ) (ts : List Table) → Tells index ts → index < 65536 → table_asked g index ≡ table_in (table_answer ts 0)
  asked_at index ts tells fits =
      let e : index ≡ index + 0 = omega arith in
      ap (λ (a : Answer). table_in (received a)) (table_answered g index fits)
      ∙ ap table_in (ap (table_answer g.tables) e ∙ tells 0)

  tables_from : (ts : List Table) → are_places_good ts ≡ true → (looks index : ℕ) → Tells index ts
      → length ts < looks → index + length ts < 65536 → tables_asked g looks index ≡ ts
  tables_from ts good zero index tells many fits = let x : ⊥ = omega arith in absurd x
  tables_from [] good (suc looks) index tells many fits =
      ap (λ (t : Table). unless_end t (tables_asked g looks (index + 1))) (asked_at index [] tells (omega arith))
  tables_from (t ∷ ts) good (suc looks) index tells many fits =
      let each = both (is_place_good t) (are_places_good ts) good in
      let p = place t each.0 in
      let first : table_asked g index ≡ t = asked_at index (t ∷ ts) tells (omega arith) ∙ table_back t p in
      let behind : tables_asked g looks (index + 1) ≡ ts =
      tables_from ts each.1 looks (index + 1) (tells_behind index t ts tells) (omega arith) (omega arith) in
      (λ i. unless_end (first i) (behind i)) ∙ rw (no_end t p) refl

  -- 17 looks or more: none is cut off, and the zeros are seen
  pub tables_told : length g.tables ≤ most_tables → are_places_good g.tables ≡ true → (looks : ℕ) → most_tables < looks
      → tables_asked g looks 0 ≡ g.tables
  tables_told few good looks enough =
      tables_from g.tables good looks 0 (λ i. ap (table_answer g.tables) (zero-add i)) (omega arith) (omega arith)
