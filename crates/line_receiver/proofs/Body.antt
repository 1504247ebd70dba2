-- The body beside the receiver: data stored from its first place on, past its end nothing.
use Prim.Native.Nat.{ℕ, suc, ◌<◌, ◌≤◌, ◌+◌, ◌-◌}
use mathlib.Core.Path.{◌≡◌, refl, ◌∙◌}
use mathlib.Core.List.{List, [], ◌∷◌, ◌++◌, append_assoc, append-nil}
use native.Mathlib.Omega.{arith}
use borrow.Author.Tests.{ltb-true, ltb-false}
use lib.Dec.{ltb}
use lib.ListN.{length, take, set, length-set, length-take}
use lib.Seq.{sets, set_out, take-suc-set, take-length, take_all, take-append_seam, sets-eq}
use Rattle.document.proofs.Cases.{split}
use Rattle.line_receiver.specs.declared.Event.{Event}
use Rattle.line_receiver.specs.declared.Event.TheVariants.{Nothing, Keep, Whole}
use Rattle.line_receiver.specs.Report.{body_after}

-- an event changes no length
pub body_length_lem : (event : Event) (body : List ℕ) → length (body_after event body) ≡ length body
body_length_lem Nothing body = refl
body_length_lem (Keep at byte) body = length-set body at byte
body_length_lem (Whole command n sum) body = refl

-- ---- data that run past the end
sets_past : (data' body : List ℕ) (at : ℕ) → length body ≤ at → sets body at data' ≡ body
sets_past [] body at past = refl
sets_past (d ∷ ds) body at past = simp (set_out body at d past) (sets_past ds body (suc at) (omega arith))

sets_full : (data' body : List ℕ) (at : ℕ) → at ≤ length body → length body ≤ at + length data' →
    sets body at data' ≡ take at body ++ take (length body - at) data'
sets_full [] body at within full =
    let e : at ≡ length body = omega arith in
    let z : length body - at ≡ 0 = omega arith in
    rw (z, e, take-length, append-nil)
sets_full (d ∷ ds) body at within full =
    split (ltb at (length body))
    (λ t. let lt : at < length body = ltb-true at (length body) t in
    let m : length body - at ≡ suc (length body - suc at) = omega arith in
    let later : sets (set body at d) (suc at) ds ≡ take (suc at) (set body at d) ++ take (length
    (set body at d) - suc at) ds =
    sets_full ds (set body at d) (suc at) (simp length-set lt) (simp length-set (omega arith)) in
    rw m (later ∙ simp (take-suc-set body at d lt, length-set, append_assoc)))
    (λ f. let past : length body ≤ at = ltb-false at (length body) f in
    let z : length body - at ≡ 0 = omega arith in
    let e : at ≡ length body = omega arith in
    rw (set_out body at d past, sets_past ds body (suc at) (omega arith), z, e, take-length, append-nil))

-- data stored from the first place on: the body's front holds them, so far as they fit
pub kept_front : (data' body : List ℕ) → take (length data') (sets body 0 data') ≡ take (length body) data'
kept_front data' body =
    split (ltb (length body) (length data'))
    (λ t. let over : length body < length data' = ltb-true _ _ t in
    let z : length body - 0 ≡ length body = omega arith in
    let short : length (take (length body) data') ≤ length data' = simp length-take (omega arith) in
    rw (
      sets_full data' body 0 (omega arith) (omega arith),
      z,
      take_all (length data') (take (length body) data') short,
    ))
    (λ f. let fits : length data' ≤ length body = ltb-false _ _ f in
    rw (sets-eq data' body 0 (omega arith), take_all (length body) data' fits, take-append_seam))
