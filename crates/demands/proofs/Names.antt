-- Names over the port after any run: the tables are those that were registered, and their entries are read as the memory holds them.
use mathlib.Core.Path.{◌≡◌, refl, sym, ap, subst, ◌∙◌}
use mathlib.Core.Bool.{true}
use mathlib.Core.List.{List}
use Prim.Native.Nat.{ℕ, ◌≤◌}
use native.Mathlib.Omega.{arith}
use lib.ListN.{length}
use Rattle.document.specs.Tables.{Table, most_tables}
use Rattle.document.specs.Happenings.{Since}
use Rattle.call_register.proofs.Registered.{taken_good}
use Rattle.laws_names.specs.Names.{names_in, are_places_good}
use Rattle.laws_names.specs.Steps.{names_read}
use Rattle.laws_names.proofs.Found.{names_found}
use Rattle.laws_names.proofs.Registered.{registered_few, registered_places}
use Rattle.demands.specs.Board.{Board, gate_in}
use Rattle.demands.specs.Run.{Reset}
use Rattle.demands.specs.Run.Reset.{by_reset, by_registering}
use Rattle.demands.proofs.Reached.{Reached}

-- what registering has checked of the tables
record Checked (tables : List Table) : Type 0 where
  few : length tables ≤ most_tables
  places : are_places_good tables ≡ true

checked : (block memory : List ℕ) (tables : List Table) (after : List ℕ) → Reset block memory tables after → Checked tables
checked block memory tables after (by_reset r _ reset) = record { few = omega arith; places = refl }
checked block memory tables after (by_registering list _ all registered) =
    let good = (taken_good block memory list (sym registered.number)).good in
    record { few = registered_few memory list good; places = registered_places memory list good }

module _ (block memory : List ℕ) (tables : List Table) (after : List ℕ) (reset : Reset block memory tables after)
    (h : Board) (s : Since) (r : Reached h s) (stay : (gate_in h).tables ≡ tables) where
  pub names_come : names_read (gate_in h) ≡ names_in h.memory tables
  names_come =
      let known = checked block memory tables after reset in
      let m = r.within.memory_part in
      names_found (gate_in h) m.size m.bytes
      (subst (λ (ts : List Table). length ts ≤ most_tables) (sym stay) known.few)
      (subst (λ (ts : List Table). are_places_good ts ≡ true) (sym stay) known.places)
      ∙ ap (names_in h.memory) stay
