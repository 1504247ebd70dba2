-- How the trigger's struct holds the document's trigger, and which of them have something to compare.
use Rattle.std.specs.Prelude.{◌≡◌, ◌*◌, ◌^◌, ◌≤◌, ◌<◌}
use Rattle.document.specs.Plan.{Trigger}
use Rattle.recorder_triggers.specs.declared.edges.Trigger.{Trigger as TriggerState}

abbrev pub meant : TriggerState → Trigger
meant t = record { mode = t.mode; address = t.address; size = t.size; sign = t.sign; threshold = t.threshold }

-- where there is a trigger it has a size, of which the threshold is a number
pub record Comparable (t : TriggerState) : Type 0 where
  pub sized : (t.mode ≡ 0 → ⊥) → 1 ≤ t.size
  pub small : t.size ≤ 4
  pub fitting : t.threshold < 2 ^ (8 * t.size)
