-- The first refusal of a list that applies: its status is known, and where there is none, none applies.
use mathlib.Core.Path.{◌≡◌, refl, sym, ◌∙◌}
use mathlib.Core.Bool.{true, false, cond}
use mathlib.Core.List.{List, [], ◌∷◌, ◌++◌}
use borrow.Author.Tests.{eqb-true, eq-eqb, ne_eqb}
use lib.Dec.{eqb}
use Rattle.document.specs.Numbers.{is_status, done}
use Rattle.document.specs.Refusals.{Refusal, first_of}
use Rattle.document.specs.Gate.{Gate, Outcome, says}
use Rattle.document.specs.Commands.{unless}
use Rattle.document.proofs.Cases.{split, neither}

-- each has a known status, and none of them says that it is done
abbrev pub Known : List Refusal → Type 0
Known [] = Unit {0}
Known (r ∷ rs) = (is_status r.status ≡ true) × (eqb r.status done ≡ false) × Known rs

abbrev pub NoneApplies : List Refusal → Type 0
NoneApplies [] = Unit {0}
NoneApplies (r ∷ rs) = (r.applies ≡ false) × NoneApplies rs

pub first_known : (rs : List Refusal) → Known rs → is_status (first_of rs) ≡ true
first_known [] known = refl
first_known (r ∷ rs) known =
    split r.applies (λ t. rw t known.0) (λ f. rw f (first_known rs known.2))

pub none_applies : (rs : List Refusal) → Known rs → first_of rs ≡ done → NoneApplies rs
none_applies [] known e = tt
none_applies (r ∷ rs) known e =
    split r.applies
    (λ t. neither (sym known.1 ∙ eq-eqb r.status done (rw t at e)))
    (λ f. (f, none_applies rs known.2 (rw f at e)))

-- the lines of one list, and behind them those of another
pub first_append : (rs ss : List Refusal) → Known rs → first_of (rs ++ ss) ≡ cond (eqb (first_of rs) done) (first_of ss) (first_of rs)
first_append [] ss known = refl
first_append (r ∷ rs) ss known =
    split r.applies
    (λ t. rw (t, known.1) refl)
    (λ f. rw f (first_append rs ss known.2))

-- ---- an outcome, unless one of these refuses

module _ (g : Gate) (rs : List Refusal) (o : Outcome) where
  pub unless_refused : (first_of rs ≡ done → ⊥) → unless g rs o ≡ says g (first_of rs) []
  unless_refused some = rw (ne_eqb (first_of rs) done some) refl

  pub unless_none : first_of rs ≡ done → unless g rs o ≡ o
  unless_none none = rw (eq-eqb (first_of rs) done none) refl

  -- where the outcome says `done` alone, what is said is the first status alone
  pub unless_alone : o.answer ≡ record { status = done; body = [] } → (unless g rs o).answer ≡ record { status = first_of rs; body = [] }
  unless_alone silent =
      split (eqb (first_of rs) done)
      (λ none. rw none (silent ∙ (λ i. record { status = sym (eqb-true (first_of rs) done none) i; body = [] })))
      (λ some. rw some refl)
