-- An edge said by levels: a set fires where it is at or beyond the threshold and the set before it was not.
use mathlib.Core.Path.{◌≡◌, refl}
use mathlib.Core.Bool.{not, ◌&&◌}
use Prim.Native.Nat.{ℕ}
use lib.IntN.{ℤ, pos, negsuc}
use lib.Signed.{lt_z, le_z}
use lib.Dec.{eqb, leb, ltb}
use borrow.Author.Tests.{ltb-true, ltb-false, lt-leb, le-leb}
use Rattle.document.specs.Plan.{Trigger}
use Rattle.document.specs.Trigger.{fires, is_beyond}
use Rattle.document.proofs.Cases.{split}

-- "below" and "above" are what "at or above" and "at or below" leave
below_not : (a b : ℕ) → ltb a b ≡ not (leb b a)
below_not a b =
    split (ltb a b)
    (λ t. rw (t, lt-leb b a (ltb-true a b t)))
    (λ f. rw (f, le-leb b a (ltb-false a b f)))

beneath : (a b : ℤ) → lt_z a b ≡ not (le_z b a)
beneath (pos a) (pos b) = below_not a b
beneath (pos a) (negsuc b) = refl
beneath (negsuc a) (pos b) = refl
beneath (negsuc a) (negsuc b) = below_not b a

pub edge_of_levels : (t : Trigger) (previous this : ℕ) → fires t previous this ≡ not (is_beyond t previous) && is_beyond t this
unfolding fires is_beyond
edge_of_levels t previous this =
    split (eqb t.mode 1)
    (λ y. rw (y, beneath _ _))
    (λ n. split (eqb t.mode 2) (λ y. rw (n, y, beneath _ _)) (λ m. rw (n, m)))
