-- From the highest byte down: the number so far is that of the bytes passed, and below the power of their count.
use mathlib.Core.Path.{◌≡◌, sym, ap}
use Prim.Native.Nat.{◌-◌}
use native.Mathlib.Nat.{sub_self, sub-zero}
use native.Mathlib.Omega.{arith}
use lib.Seq.{drop-length}
use lib.ListN.{length, length-reverse}
use Rattle.document.specs.Values.{number}
use Rattle.std.proofs.lemmas.List.{length_push}
use Rattle.std.proofs.lemmas.Iterator.Adapters.{YieldsList-from_rev_slice}
use Rattle.std.proofs.lemmas.Iterator.Consumers.{YieldsList-turn, YieldsList-end}
use Rattle.memory_ranges.proofs.Widths.{bytes_bits, fewer_bytes, byte_more, byte_more_below, next_back}
use Rattle.memory_ranges.proofs.values.number.Goals as goal

pub loop-byte-init : goal.loop-byte-init
loop-byte-init c = (rw sub-zero (sym (ap number (drop-length c.args.bytes.now))), omega arith)

pub overflow_mul-x : goal.overflow_mul-x
overflow_mul-x c =
    let l = c.loop-byte in
    let turn = YieldsList-turn (YieldsList-from_rev_slice c.args.bytes.now (cc)) l.yielded _ l.yielded_by _ _ c.in-Some.byte c.in-Some.is c.next.ensures.steps in
    omega (arith, fewer_bytes (length l.yielded) 3 (omega (arith, length-reverse c.args.bytes.now)))

pub overflow_add-x : goal.overflow_add-x
overflow_add-x c =
    let s = c.args.bytes.now in
    let l = c.loop-byte in
    let turn = YieldsList-turn (YieldsList-from_rev_slice s (cc)) l.yielded _ l.yielded_by _ _ c.in-Some.byte c.in-Some.is c.next.ensures.steps in
    let byte = next_back s (length l.yielded) c.in-Some.byte.now turn in
    omega (arith, fewer_bytes (length l.yielded) 3 (omega arith), c.type_inv.bytes (length s - 1 - length l.yielded))

pub loop-byte-preserved : goal.loop-byte-preserved
loop-byte-preserved c =
    let s = c.args.bytes.now in
    let l = c.loop-byte in
    let turn = YieldsList-turn (YieldsList-from_rev_slice s (cc)) l.yielded _ l.yielded_by _ _ c.in-Some.byte c.in-Some.is c.next.ensures.steps in
    let byte = next_back s (length l.yielded) c.in-Some.byte.now turn in
    rw (length_push l.yielded c.in-Some.byte, c.from.ensures) (
      byte_more s (length l.yielded) c.in-Some.byte.now turn l.x l.invariant.0,
      byte_more_below l.x c.in-Some.byte.now (length l.yielded) l.invariant.1 (omega (arith, c.type_inv.bytes (length s - 1 - length l.yielded))),
    )

pub returns : goal.returns
returns c =
    let s = c.args.bytes.now in
    let l = c.loop-byte in
    let t = YieldsList-end (YieldsList-from_rev_slice s (cc)) l.yielded _ l.yielded_by _ _ c.in-None.is c.next.ensures.steps in
    let n : length l.yielded ≡ length s = omega (arith, length-reverse s) in
    record { value = rw (n, sub_self) at l.invariant.0; fits = rw (n, bytes_bits) at l.invariant.1 }
