-- What stands at a place is the first token of the bytes from there on.
use mathlib.Core.Path.{◌≡◌, refl, sym, ap, ◌∙◌}
use mathlib.Core.Bool.{false}
use mathlib.Core.List.{List, [], ◌∷◌}
use Prim.Native.Nat.{ℕ, ◌+◌, ◌<◌, ◌≤◌}
use native.Mathlib.Numerals.{add-one}
use native.Mathlib.Omega.{arith}
use borrow.Author.Tests.{eqb-true, ltb-true, ltb-false}
use lib.Dec.{eqb, ltb}
use lib.ListN.{length, get_or, drop, drop_of_length-le}
use lib.Seq.{drop-cons}
use Rattle.document.specs.Pairing.{paired, width}
use Rattle.document.specs.Pairing.Token.{start, literal}
use Rattle.document.proofs.Cases.{split}
use Rattle.line_wire.proofs.Pairing.{paired_literal}
use Rattle.line_captures.specs.declared.tokens.Met.{Met}
use Rattle.line_captures.specs.declared.tokens.Met.TheVariants.{Start, Literal, End}
use Rattle.line_captures.specs.Tokens.{met_at}

module _ (bytes : List ℕ) (at : ℕ) where
  pub record AtStart : Type 0 where
    pub inside : at + 1 < length bytes
    pub other : eqb (get_or bytes (at + 1) 0) 0x2B ≡ false
    pub tokens : paired (drop at bytes) ≡ start ∷ literal (get_or bytes (at + 1) 0) ∷ paired (drop (at + 2) bytes)

  pub record AtLiteral (l next : ℕ) : Type 0 where
    pub inside : next ≤ length bytes
    pub behind : next ≡ at + width (literal l)
    pub forward : at < next
    pub tokens : paired (drop at bytes) ≡ literal l ∷ paired (drop next bytes)

abbrev pub Reads : List ℕ → ℕ → Met → Type 0
Reads bytes at Start = AtStart bytes at
Reads bytes at (Literal l next) = AtLiteral bytes at l next
Reads bytes at End = paired (drop at bytes) ≡ []

module _ (bytes : List ℕ) (at : ℕ) where
  one_on : at < length bytes → drop at bytes ≡ get_or bytes at 0 ∷ drop (at + 1) bytes
  one_on inside = drop-cons bytes at 0 inside ∙ ap (λ (n : ℕ). get_or bytes at 0 ∷ drop n bytes) (sym (add-one at))

module _ (bytes : List ℕ) (at : ℕ) (inside : at < length bytes) where
  reads_literal : eqb (get_or bytes at 0) 0x2B ≡ false → AtLiteral bytes at (get_or bytes at 0) (at + 1)
  reads_literal other =
      record {
        inside = omega (arith, inside);
        behind = rw other refl;
        forward = omega arith;
        tokens = ap paired (one_on bytes at inside) ∙ paired_literal (get_or bytes at 0) (drop (at + 1) bytes) other;
      }

  module _ (plus : get_or bytes at 0 ≡ 0x2B) where
    reads_waiting : length bytes ≤ at + 1 → paired (drop at bytes) ≡ []
    reads_waiting last =
        ap paired (one_on bytes at inside) ∙ rw (plus, drop_of_length-le bytes {i = at + 1} last) refl

    module _ (more : at + 1 < length bytes) where
      two_on : drop at bytes ≡ 0x2B ∷ get_or bytes (at + 1) 0 ∷ drop (at + 2) bytes
      two_on =
          let two : at + 1 + 1 ≡ at + 2 = omega arith in
          one_on bytes at inside
          ∙ (λ i. plus i ∷ one_on bytes (at + 1) more i)
          ∙ ap (λ (n : ℕ). 0x2B ∷ get_or bytes (at + 1) 0 ∷ drop n bytes) two

      reads_doubled : get_or bytes (at + 1) 0 ≡ 0x2B → AtLiteral bytes at 0x2B (at + 2)
      reads_doubled again =
          record {
            inside = omega (arith, more);
            behind = refl;
            forward = omega arith;
            tokens = ap paired (two_on ∙ ap (λ (b : ℕ). 0x2B ∷ b ∷ drop (at + 2) bytes) again);
          }

      reads_start : eqb (get_or bytes (at + 1) 0) 0x2B ≡ false → AtStart bytes at
      reads_start other = record { inside = more; other = other; tokens = ap paired two_on ∙ rw other refl }

pub reads : (bytes : List ℕ) (at : ℕ) → Reads bytes at (met_at bytes at)
unfolding met_at
reads bytes at =
    split (ltb at (length bytes))
    (λ t.
    let inside = ltb-true at (length bytes) t in
    split (eqb (get_or bytes at 0) 0x2B)
    (λ plus.
    let is = eqb-true (get_or bytes at 0) 0x2B plus in
    split (ltb (at + 1) (length bytes))
    (λ u.
    let more = ltb-true (at + 1) (length bytes) u in
    split (eqb (get_or bytes (at + 1) 0) 0x2B)
    (λ again. rw (t, plus, u, again) (reads_doubled bytes at inside is more (eqb-true (get_or bytes (at + 1) 0) 0x2B again)))
    (λ other. rw (t, plus, u, other) (reads_start bytes at inside is more other)))
    (λ u. rw (t, plus, u) (reads_waiting bytes at inside is (ltb-false (at + 1) (length bytes) u))))
    (λ other. rw (t, other) (reads_literal bytes at inside other)))
    (λ t. rw t (ap paired (drop_of_length-le bytes {i = at} (ltb-false at (length bytes) t))))
