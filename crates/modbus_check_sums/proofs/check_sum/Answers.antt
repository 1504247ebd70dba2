-- What is left to take in, from the register as it is, gives the check sum of the whole. The table is its rule by one computation.
use mathlib.Core.Path.{◌≡◌, refl, sym, ap, ◌∙◌}
use mathlib.Core.List.{List}
use Prim.Native.Nat.{ℕ, ◌+◌, ◌<◌}
use native.Mathlib.Numerals.{add-one}
use lib.ListN.{length, get_or, drop, drop_of_length-le}
use lib.Seq.{drop-cons}
use borrow.Author.Rules.{rules}
use Rattle.document.specs.CheckSum.{shifted, shifts, stepped, register_after, check_sum}
use Rattle.modbus_check_sums.proofs.Entries.{stepped_entry}
use Rattle.modbus_check_sums.proofs.check_sum.Goals as goal

pub loop-byte-init : goal.loop-byte-init
unfolding check_sum
loop-byte-init c = refl

onward : (bs : List ℕ) (i r s : ℕ) → i < length bs → s ≡ stepped r (get_or bs i 0) → register_after s (drop (i + 1) bs) ≡ register_after r (drop i bs)
onward bs i r s h e = rw (add-one i, drop-cons bs i 0 h, e)

pub loop-byte-preserved : goal.loop-byte-preserved
unfolding shifts shifted
loop-byte-preserved c =
    let l = c.loop-byte in
    let s = c.args.bytes.now in
    let entry = stepped_entry l.register (get_or s l.byte-index 0) c.low_byte.result (search rules) c.low_byte.ensures.0 in
    onward s l.byte-index l.register _ c.loop-byte-test.true entry ∙ l.invariant

pub returns : goal.returns
returns c =
    ap (λ (l : List ℕ). register_after c.loop-byte.register l) (sym (drop_of_length-le _ c.loop-byte-test.false)) ∙ c.loop-byte.invariant
