-- A walk passes over what the code passes over.
use mathlib.Core.Path.{◌≡◌, refl, sym, ap, subst, ◌∙◌}
use mathlib.Core.List.{List, [], ◌∷◌, ◌++◌, append-nil}
use Prim.Native.Nat.{ℕ, zero, suc, ◌+◌, ◌-◌, ◌<◌, ◌≤◌}
use native.Mathlib.Omega.{arith}
use borrow.Author.Tests.{eqb-true, eqb-false, ltb-true}
use lib.Dec.{eqb, ltb}
use lib.ListN.{length, replicate, take, drop, take-append-drop}
use Rattle.document.specs.Numbers.{answer_room}
use Rattle.document.specs.Bytes.{AllBytes}
use Rattle.document.proofs.Cases.{split}
use Rattle.line_receiver.specs.Bounds.{idle, data_next}
use Rattle.state_parts.specs.State.{Target}
use Rattle.state_parts.specs.Within.{Within}
use Rattle.state_parts.proofs.ByteLaws.{all_take}
use Rattle.state_byte.specs.Quiet.{plain_ahead, last_kept, data_ahead, passed_target, passed_over, passed_by}
use Rattle.state_byte.specs.Walk.{Walk, begun, room, walked}
use Rattle.state_byte.proofs.Walks.{walked_all, walked_keeps, heard_only}
use Rattle.state_byte.proofs.Quiet.{NoPlus, idle_passed, data_passed}
use Rattle.call_quiet.proofs.Over.{over_waiting, over_idle, over_other, over_data, by_none, by_idle, by_data, kept_most}

-- ---- the bytes before a 0x2B

no_plus : (n : ℕ) (bs : List ℕ) → NoPlus (take (plain_ahead n bs) bs)
no_plus zero bs = tt
no_plus (suc n) [] = tt
no_plus (suc n) (b ∷ bs) = split (eqb b 0x2B) (λ e. rw e tt) (λ e. rw e (eqb-false b 0x2B e, no_plus n bs))

ahead_most : (n : ℕ) (bs : List ℕ) → plain_ahead n bs ≤ n
ahead_most zero bs = omega arith
ahead_most (suc n) [] = omega arith
ahead_most (suc n) (b ∷ bs) = split (eqb b 0x2B) (λ e. rw e (omega arith)) (λ e. rw e (omega (arith, ahead_most n bs)))

ahead_inside : (n : ℕ) (bs : List ℕ) → plain_ahead n bs ≤ length bs
ahead_inside zero bs = omega arith
ahead_inside (suc n) [] = omega arith
ahead_inside (suc n) (b ∷ bs) = split (eqb b 0x2B) (λ e. rw e (omega arith)) (λ e. rw e (omega (arith, ahead_inside n bs)))

ahead_length : (n : ℕ) (bs : List ℕ) → length (take (plain_ahead n bs) bs) ≡ plain_ahead n bs
ahead_length zero bs = refl
ahead_length (suc n) [] = refl
ahead_length (suc n) (b ∷ bs) = split (eqb b 0x2B) (λ e. rw e refl) (λ e. rw e (ap suc (ahead_length n bs)))

kept_below : (n : ℕ) → last_kept n ≤ n
kept_below n = split (ltb 64 n) (λ more. rw more (omega (arith, ltb-true 64 n more))) (λ few. rw few (omega arith))

before_last : (have last size : ℕ) → size ≤ last - have - 1 → (size ≡ 0 → ⊥) → have + size + 1 ≤ last
before_last have last size ahead some = omega (arith, ahead, some)

-- ---- a run of them

module _ (w : Walk) (bs : List ℕ) (long : answer_room ≤ room w) where
  abbrev t : Target
  t = w.next

  nothing_passed : passed_over t bs ≡ 0 → walked w bs ≡ walked (heard_only w (passed_over t bs) (passed_by t bs)) (drop (passed_over t bs) bs)
  nothing_passed e =
      let none : w.taken ≡ w.taken + passed_over t bs = omega (arith, e) in
      λ i. walked (record { taken = none i; written = w.written; next = sym (by_none t bs e) i; memory = w.memory; buffer = w.buffer }) (drop (sym e i) bs)

  module _ (n : ℕ) (is : passed_over t bs ≡ plain_ahead n bs) where
    abbrev run : List ℕ
    run = take (plain_ahead n bs) bs

    abbrev rest : List ℕ
    rest = drop (plain_ahead n bs) bs

    parted : walked w bs ≡ walked w (run ++ rest)
    parted = ap (walked w) (sym (take-append-drop (plain_ahead n bs) bs))

    -- what the run leaves, as the code counts it
    counted : (s : Target) → s ≡ passed_by t bs → walked (heard_only w (length run) s) rest ≡ walked (heard_only w (passed_over t bs) (passed_by t bs)) (drop (passed_over t bs) bs)
    counted s e =
        let size : length run ≡ passed_over t bs = ahead_length n bs ∙ sym is in
        λ i. walked (heard_only w (size i) (e i)) (drop (sym is i) bs)

  idle_over : t.receiver.waiting ≡ 0 → t.receiver.phase ≡ idle → walked w bs ≡ walked (heard_only w (passed_over t bs) (passed_by t bs)) (drop (passed_over t bs) bs)
  idle_over calm outside =
      let is = over_idle t bs calm outside in
      parted (length bs) is
      ∙ idle_passed (run (length bs) is) (rest (length bs) is) w long calm outside (no_plus (length bs) bs)
      ∙ counted (length bs) is t (sym (by_idle t bs outside))

  module _ (calm : t.receiver.waiting ≡ 0) (other : t.receiver.phase ≡ idle → ⊥) (inside : t.receiver.phase ≡ data_next) (small : t.receiver.sum < 256) (some : passed_over t bs ≡ 0 → ⊥) where
    abbrev n : ℕ
    n = data_ahead t.receiver

    is : passed_over t bs ≡ plain_ahead n bs
    is = over_data t bs calm other inside

    left : passed_by t bs ≡ passed_target t (run n is)
    left = by_data t bs inside some ∙ ap (λ (k : ℕ). passed_target t (take k bs)) is

    data_run : (behind : List ℕ) → walked w (run n is ++ behind) ≡ walked (heard_only w (length (run n is)) (passed_target t (run n is))) behind
    data_run behind =
        let size = ahead_length (data_ahead t.receiver) bs in
        let before : t.receiver.have + length (run n is) + 1 ≤ last_kept t.receiver.length =
        before_last t.receiver.have (last_kept t.receiver.length) (length (run n is)) (omega (arith, size, ahead_most (data_ahead t.receiver) bs)) (λ z. some (is ∙ sym size ∙ z)) in
        data_passed (run n is) behind w long calm inside small (no_plus n bs) (omega (arith, before, kept_below t.receiver.length)) (omega (arith, before, kept_most t.receiver.length))

    data_over : walked w bs ≡ walked (heard_only w (passed_over t bs) (passed_by t bs)) (drop (passed_over t bs) bs)
    data_over = parted n is ∙ data_run (rest n is) ∙ counted n is (passed_target t (run n is)) (sym left)

    data_keeps : AllBytes bs → Within t w.memory → Within (passed_by t bs) w.memory
    data_keeps all within =
        subst (λ (k : Target). Within k w.memory) (sym left)
        (subst (λ (k : Walk). Within k.next k.memory) (data_run [] ∙ walked_all (heard_only w (length (run n is)) (passed_target t (run n is))))
        (walked_keeps (run n is ++ []) w (subst AllBytes (sym (append-nil (run n is))) (all_take (plain_ahead n bs) bs all)) within))

-- nothing is passed over, or bytes outside a message, or data
module _ (t : Target) (bs : List ℕ) {P : Type 0} (nothing : passed_over t bs ≡ 0 → P) (outside : t.receiver.waiting ≡ 0 → t.receiver.phase ≡ idle → P)
    (inside : t.receiver.waiting ≡ 0 → (t.receiver.phase ≡ idle → ⊥) → t.receiver.phase ≡ data_next → (passed_over t bs ≡ 0 → ⊥) → P) where
  over_cases : P
  over_cases =
      split (eqb (passed_over t bs) 0)
      (λ none. nothing (eqb-true (passed_over t bs) 0 none))
      (λ some. split (eqb t.receiver.waiting 0)
      (λ calm. split (eqb t.receiver.phase idle)
      (λ idles. outside (eqb-true t.receiver.waiting 0 calm) (eqb-true t.receiver.phase idle idles))
      (λ other. split (eqb t.receiver.phase data_next)
      (λ inner. inside (eqb-true t.receiver.waiting 0 calm) (eqb-false t.receiver.phase idle other) (eqb-true t.receiver.phase data_next inner) (eqb-false (passed_over t bs) 0 some))
      (λ never. nothing (over_other t bs (eqb-true t.receiver.waiting 0 calm) (eqb-false t.receiver.phase idle other) (eqb-false t.receiver.phase data_next never)))))
      (λ waits. nothing (over_waiting t bs (eqb-false t.receiver.waiting 0 waits))))

-- no more than there are
pub over_inside : (t : Target) (bs : List ℕ) → passed_over t bs ≤ length bs
over_inside t bs =
    over_cases t bs
    (λ none. omega (arith, none))
    (λ calm outside. omega (arith, over_idle t bs calm outside, ahead_inside (length bs) bs))
    (λ calm other inside some. omega (arith, over_data t bs calm other inside, ahead_inside (data_ahead t.receiver) bs))

-- what the code passes over, whatever the phase
pub passed_walk : (w : Walk) (bs : List ℕ) → answer_room ≤ room w → w.next.receiver.sum < 256
    → walked w bs ≡ walked (heard_only w (passed_over w.next bs) (passed_by w.next bs)) (drop (passed_over w.next bs) bs)
passed_walk w bs long small =
    over_cases w.next bs (nothing_passed w bs long) (idle_over w bs long) (λ calm other inside some. data_over w bs long calm other inside small some)

-- within bounds, a state is so behind them
pub passed_keeps : (t : Target) (memory bs : List ℕ) → AllBytes bs → t.receiver.sum < 256 → Within t memory → Within (passed_by t bs) memory
passed_keeps t memory bs all small within =
    over_cases t bs
    (λ none. subst (λ (k : Target). Within k memory) (sym (by_none t bs none)) within)
    (λ calm outside. subst (λ (k : Target). Within k memory) (sym (by_idle t bs outside)) within)
    (λ calm other inside some. data_keeps (begun t memory (replicate answer_room 0)) bs (omega arith) calm other inside small some all within)
