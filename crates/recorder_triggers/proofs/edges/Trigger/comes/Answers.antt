-- An edge is two levels: that of this set, and that of the one before.
use mathlib.Core.Path.{◌≡◌, sym}
use mathlib.Core.Bool.{Bool, true, false, not, and-true, and-false}
use Prim.Native.Nat.{ℕ}
use Rattle.document.specs.Plan.{Trigger}
use Rattle.document.specs.Trigger.{fires, is_beyond}
use Rattle.document.proofs.Levels.{edge_of_levels}
use Rattle.recorder_triggers.proofs.edges.Trigger.comes.Goals as goal

module _ (t : Trigger) (previous this : ℕ) (now : Bool) (e : now ≡ is_beyond t this) where
  -- this set is at or beyond the threshold, and the one before tells
  reached : (was : Bool) → was ≡ is_beyond t previous → now ≡ true → not was ≡ fires t previous this
  reached was f y = rw (edge_of_levels t previous this, ← e, ← f, y) (sym (and-true (not was)))

  not-reached : now ≡ false → now ≡ fires t previous this
  not-reached n = rw (edge_of_levels t previous this, ← e, n) (sym (and-false (not (is_beyond t previous))))

pub returns-then-is_beyond : goal.returns-then-is_beyond
returns-then-is_beyond c = reached _ _ _ _ c.is_beyond.ensures _ c.is_beyond-then-is_beyond.ensures c.if-is_beyond.true

pub returns-else-is_beyond : goal.returns-else-is_beyond
returns-else-is_beyond c = not-reached _ _ _ _ c.is_beyond.ensures c.if-is_beyond.false
