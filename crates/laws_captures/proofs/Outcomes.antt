-- The capture call: "show that two outcomes allowed by one promise are equal", and a refusal leaves all as it was.
use mathlib.Core.Path.{◌≡◌, refl, sym, ap, ◌∙◌}
use mathlib.Core.List.{List}
use Prim.Native.Nat.{ℕ}
use borrow.Author.Tests.{ne_eqb}
use Rattle.document.specs.Numbers.{taken}
use Rattle.document_captures.specs.Captures.{capture_refusal, capture_count, capture_list}
use Rattle.call_capture.specs.declared.Listed.{Listed}
use Rattle.call_capture.specs.Promises.{CaptureDone}
use Rattle.laws_captures.specs.Answered.{CaptureRefused}

module _ (bytes before : List ℕ) (r : Listed) (after : List ℕ) (done : CaptureDone bytes before r after) where
  pub capture_one_outcome : (s : Listed) (other : List ℕ) → CaptureDone bytes before s other → (r ≡ s) × (after ≡ other)
  capture_one_outcome s other q = (done.result ∙ sym q.result, done.list ∙ sym q.list)

  pub capture_refused : CaptureRefused bytes before r after
  unfolding capture_count capture_list
  capture_refused =
      let number : r.refusal ≡ capture_refusal bytes before = ap (λ (l : Listed). l.refusal) done.result in
      record {
        number = number;
        unchanged = λ other.
            let no = ne_eqb (capture_refusal bytes before) taken (λ e. other (number ∙ e)) in
            (ap (λ (l : Listed). l.count) done.result ∙ rw no refl, done.list ∙ rw no refl);
      }
