-- What a run over quiet bytes comes to, by the receiver's phase.
use mathlib.Core.Path.{◌≡◌, refl, sym, ap, ◌∙◌}
use mathlib.Core.List.{List, [], ◌∷◌}
use mathlib.Core.Bool.{cond}
use Prim.Native.Nat.{ℕ, zero, suc, ◌+◌, ◌-◌, ◌<◌, ◌≤◌}
use native.Mathlib.Omega.{arith}
use borrow.Author.Tests.{eq-eqb, ne_eqb, eqb-true, eqb-false, ltb-false}
use lib.Dec.{eqb, ltb}
use lib.ListN.{length, get_or, take}
use lib.Seq.{sets}
use Rattle.document.proofs.Cases.{split}
use Rattle.bytes_fields.proofs.Ranges.{sets_same}
use Rattle.line_receiver.specs.Bounds.{idle, data_next}
use Rattle.state_parts.specs.State.{Target}
use Rattle.state_byte.specs.Quiet.{plain_ahead, last_kept, data_ahead, passed_target, passed_over, passed_by}
use Rattle.state_block.specs.Places.{state_length}
use Rattle.state_block.specs.Layout.{decoded, encoded}
use Rattle.state_block.proofs.Kept.{encoded_decoded}

-- no more are looked at than there are
enough : (bs : List ℕ) (n : ℕ) → length bs ≤ n → plain_ahead n bs ≡ plain_ahead (length bs) bs
enough [] zero h = refl
enough [] (suc n) h = refl
enough (b ∷ bs) zero h = let z : ⊥ = omega arith in absurd z
enough (b ∷ bs) (suc n) h = ap (λ (k : ℕ). cond (eqb b 0x2B) 0 (suc k)) (enough bs n (omega arith))

pub ahead_cut : (bs : List ℕ) (n most : ℕ) → n ≤ most → (n < most → n ≡ length bs) → plain_ahead n bs ≡ plain_ahead most bs
ahead_cut bs n most le cut =
    split (eqb n most)
    (λ e. ap (λ (k : ℕ). plain_ahead k bs) (eqb-true n most e))
    (λ e.
    let whole : n ≡ length bs = cut (omega (arith, le, eqb-false n most e)) in
    ap (λ (k : ℕ). plain_ahead k bs) whole ∙ sym (enough bs most (omega (arith, whole, le))))

module _ (t : Target) (bs : List ℕ) where
  pub over_waiting : (t.receiver.waiting ≡ 0 → ⊥) → passed_over t bs ≡ 0
  unfolding passed_over
  over_waiting n = rw (ne_eqb t.receiver.waiting 0 n) refl

  module _ (calm : t.receiver.waiting ≡ 0) where
    pub over_idle : t.receiver.phase ≡ idle → passed_over t bs ≡ plain_ahead (length bs) bs
    unfolding passed_over
    over_idle e = rw (eq-eqb t.receiver.waiting 0 calm, eq-eqb t.receiver.phase idle e) refl

    pub over_other : (t.receiver.phase ≡ idle → ⊥) → (t.receiver.phase ≡ data_next → ⊥) → passed_over t bs ≡ 0
    unfolding passed_over
    over_other n m = rw (eq-eqb t.receiver.waiting 0 calm, ne_eqb t.receiver.phase idle n, ne_eqb t.receiver.phase data_next m) refl

    pub over_data : (t.receiver.phase ≡ idle → ⊥) → t.receiver.phase ≡ data_next → passed_over t bs ≡ plain_ahead (data_ahead t.receiver) bs
    unfolding passed_over
    over_data n e = rw (eq-eqb t.receiver.waiting 0 calm, ne_eqb t.receiver.phase idle n, eq-eqb t.receiver.phase data_next e) refl

  pub by_none : passed_over t bs ≡ 0 → passed_by t bs ≡ t
  unfolding passed_by
  by_none e = rw (eq-eqb (passed_over t bs) 0 e) refl

  pub by_idle : t.receiver.phase ≡ idle → passed_by t bs ≡ t
  unfolding passed_by
  by_idle e = split (eqb (passed_over t bs) 0) (λ z. rw z refl) (λ n. rw (n, ne_eqb t.receiver.phase data_next (λ d. omega (arith, d, e))) refl)

  pub by_data : t.receiver.phase ≡ data_next → (passed_over t bs ≡ 0 → ⊥) → passed_by t bs ≡ passed_target t (take (passed_over t bs) bs)
  unfolding passed_by
  by_data e n = rw (ne_eqb (passed_over t bs) 0 n, eq-eqb t.receiver.phase data_next e) refl

pub same_state : (block : List ℕ) → state_length ≤ length block → ((i : ℕ) → get_or block i 0 < 256) → (t : Target) → t ≡ decoded block → block ≡ sets block 0 (encoded t)
same_state block long small t e =
    sym (ap (sets block 0) (encoded_decoded block small long) ∙ sets_same state_length block 0 (omega (arith, long))) ∙ ap (λ (k : Target). sets block 0 (encoded k)) (sym e)

pub kept_most : (n : ℕ) → last_kept n ≤ 64
kept_most n = split (ltb 64 n) (λ more. rw more (omega arith)) (λ few. rw few (omega (arith, ltb-false 64 n few)))

-- a run ends before the last that is kept
pub run_fits : (have last n from end : ℕ) → n ≤ last - have - 1 → last ≤ 64 → from ≤ end → end ≤ from + n → (end ≡ from → ⊥) → have + (end - from) ≤ 63
run_fits have last n from end ahead most some short other =
    let size : end - from ≤ n = omega (arith, short) in
    let one : 0 < end - from = omega (arith, some, other) in
    let left : have + 1 + n ≤ last = omega (arith, ahead, size, one) in
    omega (arith, size, left, most)
