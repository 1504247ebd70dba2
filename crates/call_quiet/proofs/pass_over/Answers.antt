-- By the receiver's phase: nothing, up to a 0x2B, or data up to the last that is kept.
use mathlib.Core.Path.{◌≡◌, sym, ap, ◌∙◌}
use mathlib.Core.List.{List}
use Prim.Native.Nat.{ℕ, ◌+◌, ◌-◌, ◌<◌, ◌≤◌}
use native.Mathlib.Omega.{arith}
use lib.ListN.{length, get_or, take, drop, length-drop}
use lib.Seq.{sets}
use Rattle.line_receiver.specs.declared.Receiver.{Receiver}
use Rattle.line_receiver.specs.Bounds.{data_next}
use Rattle.state_parts.specs.State.{Target}
use Rattle.state_parts.proofs.ByteLaws.{take_short}
use Rattle.state_byte.specs.Quiet.{plain_ahead, last_kept, data_ahead, passed_over, passed_by}
use Rattle.state_block.specs.Layout.{decoded_receiver, decoded, encoded}
use Rattle.state_block.specs.Places.{state_length}
use Rattle.call_quiet.specs.Passed.{kept_run, Passed}
use Rattle.call_quiet.proofs.Over.{ahead_cut, over_waiting, over_idle, over_other, over_data, by_none, by_idle, by_data, same_state, kept_most, run_fits}
use Rattle.call_quiet.proofs.pass_over.Goals as goal

-- ---- the state that is lent, the bytes, and where they begin
module _ (s bytes : List ℕ) (from : ℕ) (long : state_length ≤ length s) (small : (i : ℕ) → get_or s i 0 < 256) where
  abbrev rest : List ℕ
  rest = drop from bytes

  kept : passed_by (decoded s) rest ≡ decoded s → s ≡ sets s 0 (encoded (passed_by (decoded s) rest))
  kept e = same_state s long small (passed_by (decoded s) rest) e

  nothing : passed_over (decoded s) rest ≡ 0 → Passed s bytes from from s
  nothing e = record { place = omega (arith, e); state = kept (by_none (decoded s) rest e) }

-- ---- nothing waits, inside a message, in its data: what is passed over is what was found plain
module _ (s bytes : List ℕ) (from : ℕ) (head : Receiver) (is : head ≡ decoded_receiver s) (calm : head.waiting ≡ 0) where
  still : (decoded_receiver s).waiting ≡ 0
  still = sym (ap (λ (h : Receiver). h.waiting) is) ∙ calm

  phase : head.phase ≡ (decoded_receiver s).phase
  phase = ap (λ (h : Receiver). h.phase) is

  module _ (n end : ℕ) (inside : (decoded_receiver s).phase ≡ 0 → ⊥) (in_data : (decoded_receiver s).phase ≡ data_next)
      (most : n ≤ data_ahead head) (less : n < data_ahead head → n ≡ length bytes - from)
      (found : end ≡ from + plain_ahead (from + n - from) (drop from bytes)) where
    passed : passed_over (decoded s) (drop from bytes) ≡ end - from
    passed =
        let cut : n < data_ahead head → n ≡ length (drop from bytes) = λ short. less short ∙ sym (length-drop from bytes) in
        let m : from + n - from ≡ n = omega arith in
        let plain : plain_ahead (from + n - from) (drop from bytes) ≡ plain_ahead n (drop from bytes) =
        ap (λ (k : ℕ). plain_ahead k (drop from bytes)) m in
        let ended : plain_ahead n (drop from bytes) ≡ end - from = omega (arith, plain, found) in
        over_data (decoded s) (drop from bytes) still inside in_data
        ∙ ap (λ (h : Receiver). plain_ahead (data_ahead h) (drop from bytes)) (sym is)
        ∙ sym (ahead_cut (drop from bytes) n (data_ahead head) most cut)
        ∙ ended

within_run : (have n size : ℕ) → n ≤ size → have + size ≤ 63 → have + n ≤ 63
within_run have n size short room = omega (arith, short, room)

pub returns-then-head-ne0 : goal.returns-then-head-ne0
returns-then-head-ne0 c =
    let s = c.args.state.now in
    nothing s c.args.bytes.now c.args.from c.requires.0 (λ i. (c.slice_known-1.given i).fits)
    (over_waiting (decoded s) (drop c.args.from c.args.bytes.now) (λ e. c.if-head-ne0.true (ap (λ (h : Receiver). h.waiting) c.receiver_in-head.ensures ∙ e)))

pub returns-then-head-eq-IDLE : goal.returns-then-head-eq-IDLE
returns-then-head-eq-IDLE c =
    let s = c.args.state.now in
    let bytes = c.args.bytes.now in
    let from = c.args.from in
    let head = c.receiver_in-head.result in
    let outside = sym (phase s bytes from head c.receiver_in-head.ensures c.if-head-ne0.false) ∙ c.if-head-eq-IDLE.true in
    let all : length bytes - from ≡ length (drop from bytes) = sym (length-drop from bytes) in
    record {
      place =
          c.plain_end.ensures.0
          ∙ ap (λ (n : ℕ). from + n) (ap (λ (n : ℕ). plain_ahead n (drop from bytes)) all
          ∙ sym (over_idle (decoded s) (drop from bytes) (still s bytes from head c.receiver_in-head.ensures c.if-head-ne0.false) outside));
      state = kept s bytes from c.requires.0 (λ i. (c.slice_known-1.given i).fits) (by_idle (decoded s) (drop from bytes) outside);
    }

pub returns-then-head-ne-DATA_NEXT : goal.returns-then-head-ne-DATA_NEXT
returns-then-head-ne-DATA_NEXT c =
    let s = c.args.state.now in
    let bytes = c.args.bytes.now in
    let from = c.args.from in
    let same = phase s bytes from c.receiver_in-head.result c.receiver_in-head.ensures c.if-head-ne0.false in
    nothing s bytes from c.requires.0 (λ i. (c.slice_known-1.given i).fits)
    (over_other (decoded s) (drop from bytes) (still s bytes from c.receiver_in-head.result c.receiver_in-head.ensures c.if-head-ne0.false)
    (λ o. c.if-head-eq-IDLE.false (same ∙ o)) (λ d. c.if-head-ne-DATA_NEXT.true (same ∙ d)))

pub returns-then-end-from : goal.returns-then-end-from
returns-then-end-from c =
    let s = c.args.state.now in
    let bytes = c.args.bytes.now in
    let from = c.args.from in
    let head = c.receiver_in-head.result in
    let is = c.receiver_in-head.ensures in
    let same = phase s bytes from head is c.if-head-ne0.false in
    let over = passed s bytes from head is c.if-head-ne0.false c.data_ahead-ahead.result c.plain_end-end.result
    (λ o. c.if-head-eq-IDLE.false (same ∙ o)) (sym same ∙ c.if-head-ne-DATA_NEXT.false)
    c.data_ahead-ahead.ensures.1 c.data_ahead-ahead.ensures.2 c.plain_end-end.ensures.0 in
    nothing s bytes from c.requires.0 (λ i. (c.slice_known-1.given i).fits) (omega (arith, over, c.if-end-from.true))

pub keep_run-requires : goal.keep_run-requires
keep_run-requires c =
    let s = c.args.state.now in
    let from = c.args.from in
    let rest = drop from c.args.bytes.now in
    let head = c.receiver_in-head.result in
    let end = c.plain_end-end.result in
    let below : from ≤ end = omega (arith, c.plain_end-end.ensures.0) in
    let short : length (take (end - from) rest) ≤ end - from = take_short (end - from) rest in
    let room = run_fits head.have (last_kept head.length) c.data_ahead-ahead.result from end c.data_ahead-ahead.ensures.1 (kept_most head.length) below c.plain_end-end.ensures.1 c.if-end-from.false in
    (c.requires.0, within_run head.have (length (take (end - from) rest)) (end - from) short room)

pub returns : goal.returns
returns c =
    let s = c.args.state.now in
    let bytes = c.args.bytes.now in
    let from = c.args.from in
    let rest = drop from bytes in
    let head = c.receiver_in-head.result in
    let is = c.receiver_in-head.ensures in
    let same = phase s bytes from head is c.if-head-ne0.false in
    let in_data = sym same ∙ c.if-head-ne-DATA_NEXT.false in
    let over = passed s bytes from head is c.if-head-ne0.false c.data_ahead-ahead.result c.plain_end-end.result
    (λ o. c.if-head-eq-IDLE.false (same ∙ o)) in_data
    c.data_ahead-ahead.ensures.1 c.data_ahead-ahead.ensures.2 c.plain_end-end.ensures.0 in
    let t = decoded s in
    let some : passed_over t rest ≡ 0 → ⊥ = λ z. c.if-end-from.false (omega (arith, z, over, c.plain_end-end.ensures.0)) in
    record {
      place = omega (arith, over, c.plain_end-end.ensures.0);
      state =
          c.keep_run.ensures
          ∙ (λ i. sets s 0 (encoded (kept_run t (is i) (take (sym over i) rest))))
          ∙ ap (λ (q : Target). sets s 0 (encoded q)) (sym (by_data t rest in_data some));
    }
