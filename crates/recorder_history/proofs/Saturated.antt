-- A coil that reads 0x8000, the lowest number or a high one: "Sign 1 reads both as two's complement of the trigger size, sign 0 as
-- unsigned." So with a threshold from 0 to 0x7FFF a rising trigger of 2 bytes fires there with sign 0 and not with sign 1.
use mathlib.Core.Path.{◌≡◌, refl, ap, ◌∙◌}
use mathlib.Core.Bool.{true, false}
use mathlib.Core.List.{List, []}
use Prim.Native.Nat.{ℕ, ◌-◌, ◌*◌, ◌^◌, ◌<◌, ◌≤◌}
use native.Mathlib.Omega.{arith}
use borrow.Author.Tests.{le-leb, lt-ltb, le-ltb}
use Rattle.document.specs.Plan.{Plan, Trigger}
use Rattle.document.specs.Trigger.{trigger_value, is_beyond}
use Rattle.recorder_history.specs.History.{begun, beyond_in, TriggersNext}
use Rattle.recorder_history.specs.Trace.{RisingWord}
use Rattle.recorder_history.proofs.Beyond.{first_triggers}

-- ---- at every width

module _ (t : Trigger) (x : ℕ) (rising : t.mode ≡ 1) where
  pub unsigned_beyond : t.sign ≡ 0 → t.threshold ≤ x → is_beyond t x ≡ true
  unfolding is_beyond
  unsigned_beyond plain above = rw (rising, plain) (le-leb t.threshold x above)

  -- the threshold's top bit is clear, the value's is set
  pub signed_short : t.sign ≡ 1 → t.threshold < 2 ^ (8 * t.size - 1) → 2 ^ (8 * t.size - 1) ≤ x → is_beyond t x ≡ false
  unfolding is_beyond
  signed_short signed clear set =
      rw (rising, signed, lt-ltb t.threshold (2 ^ (8 * t.size - 1)) clear, le-ltb x (2 ^ (8 * t.size - 1)) set)

-- ---- of 2 bytes

module _ (p : Plan) (m : List ℕ) (reads : trigger_value p.trigger m ≡ 0x8000) where
  pub saturated_beyond : RisingWord p.trigger 0 → p.trigger.threshold ≤ 0x8000 → beyond_in p m ≡ true
  saturated_beyond t above = ap (is_beyond p.trigger) reads ∙ unsigned_beyond p.trigger 0x8000 t.rising t.signed above

  -- as two's complement 0x8000 is below every threshold that is not below 0
  pub saturated_short : RisingWord p.trigger 1 → p.trigger.threshold < 0x8000 → beyond_in p m ≡ false
  saturated_short t clear =
      ap (is_beyond p.trigger) reads
      ∙ signed_short p.trigger 0x8000 t.rising t.signed (rw t.word clear) (rw t.word (omega arith))

  -- after a start the trigger then comes at the first tick: what `Stop.stops` and `Trace.trigger-kept` ask
  pub saturated_triggers : RisingWord p.trigger 0 → p.trigger.threshold ≤ 0x8000 → TriggersNext p (begun m)
  saturated_triggers t above = first_triggers p m [] refl (saturated_beyond t above) tt
