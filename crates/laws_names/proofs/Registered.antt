-- The law of what was registered: a list that registering takes is good, and no more is needed of its tables.
use mathlib.Core.Path.{◌≡◌}
use mathlib.Core.Bool.{true, ◌&&◌}
use mathlib.Core.List.{List, [], ◌∷◌}
use Prim.Native.Nat.{ℕ, ◌*◌, ◌/◌, ◌%◌, ◌≤◌}
use native.Mathlib.Omega.{arith}
use borrow.Author.Tests.{leb-true}
use lib.Dec.{eqb, leb}
use lib.ListN.{length}
use Rattle.document.specs.Bytes.{AllBytes}
use Rattle.document.specs.Areas.{memory_end}
use Rattle.document.specs.Tables.{Table, most_tables, entry_size, pair_size, is_place_good, are_entries_good, is_table_good, are_tables_good, tables_in, is_list_good}
use Rattle.document.specs.Gate.{registered}
use Rattle.document.proofs.Cases.{both, and_left, and_right}
use Rattle.laws_names.specs.Names.{names_in, are_places_good}
use Rattle.laws_names.specs.Steps.{names_read}
use Rattle.laws_names.proofs.Found.{names_found}

pair_each : (list : List ℕ) → length (tables_in list) * pair_size ≤ length list
pair_each [] = omega arith
pair_each (a ∷ []) = omega arith
pair_each (a ∷ b ∷ []) = omega arith
pair_each (a ∷ b ∷ c ∷ []) = omega arith
pair_each (a ∷ b ∷ c ∷ d ∷ rest) = omega (arith, pair_each rest)

module _ (memory : List ℕ) where
  places : (ts : List Table) → are_tables_good memory ts ≡ true → are_places_good ts ≡ true
  places [] good = good
  places (t ∷ ts) good =
      let each = both (is_table_good memory t) (are_tables_good memory ts) good in
      let first = and_left (is_place_good t) (are_entries_good memory t.address (t.size / entry_size)) each.0 in
      rw (first, places ts each.1)

  module _ (list : List ℕ) (good : is_list_good memory list ≡ true) where
    -- what was checked at registering, and stays true whatever the memory holds since
    pub registered_few : length (tables_in list) ≤ most_tables
    unfolding is_list_good
    registered_few =
        let short = leb (length list) (most_tables * pair_size) in
        let pairs = eqb (length list % pair_size) 0 in
        let tables = both (short && pairs) (are_tables_good memory (tables_in list)) good in
        let few = leb-true (length list) (most_tables * pair_size) (and_left short pairs tables.0) in
        omega (arith, few, pair_each list)

    pub registered_places : are_places_good (tables_in list) ≡ true
    unfolding is_list_good
    registered_places =
        places (tables_in list) (and_right (leb (length list) (most_tables * pair_size) && eqb (length list % pair_size) 0) (are_tables_good memory (tables_in list)) good)

    pub names_registered : length memory ≡ memory_end → AllBytes memory → names_read (registered (tables_in list) memory) ≡ names_in memory (tables_in list)
    names_registered whole bytes = names_found (registered (tables_in list) memory) whole bytes registered_few registered_places
