-- What a sound scope gives, fact by fact, and the scope at reset.
use mathlib.Core.Path.{◌≡◌, refl}
use mathlib.Core.Bool.{true, false, not, ◌&&◌}
use Prim.Native.Nat.{◌≤◌}
use lib.Dec.{leb}
use borrow.Author.Tests.{leb-true, le-leb, not-true}
use Rattle.document.specs.Areas.{may_be_read}
use Rattle.document.specs.Variables.{any_size_zero, all_may}
use Rattle.document.specs.Scope.Scope.{absent}
use Rattle.variables_list.specs.State.{variables_of}
use Rattle.document.proofs.Cases.{both}
use Rattle.scope_state.specs.declared.Scope.{Scope}
use Rattle.scope_state.specs.State.{scope_of, no_scope, sound}

pub new_absent : scope_of no_scope ≡ absent
new_absent = refl

pub new_sound : sound no_scope ≡ true
unfolding sound
new_sound = refl

pub record Bounded (s : Scope) : Type 0 where
  pub count : s.variables.count ≤ 8
  pub sizes : any_size_zero (variables_of s.variables) ≡ false
  pub ranges : all_may may_be_read (variables_of s.variables) ≡ true

module _ (s : Scope) where
  pub bounds : sound s ≡ true → Bounded s
  unfolding sound
  bounds e =
      let a = both (leb s.variables.count 8) (not (any_size_zero (variables_of s.variables)) && all_may may_be_read (variables_of s.variables)) e in
      let b = both (not (any_size_zero (variables_of s.variables))) (all_may may_be_read (variables_of s.variables)) a.1 in
      record { count = leb-true _ _ a.0; sizes = not-true _ b.0; ranges = b.1 }

  pub within_bounds : Bounded s → sound s ≡ true
  unfolding sound
  within_bounds b = rw (le-leb s.variables.count 8 b.count, b.sizes, b.ranges)
