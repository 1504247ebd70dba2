-- Each mode is one comparison of two numbers, as they are read.
use mathlib.Core.Path.{◌≡◌, ap, ◌∙◌}
use Prim.Native.Nat.{ℕ}
use native.Mathlib.Omega.{arith}
use borrow.Author.Tests.{eq-eqb, ne_eqb}
use Rattle.document.specs.Trigger.{is_beyond}
use Rattle.document.specs.Values.{signed_value}
use Rattle.recorder_triggers.proofs.Handed.{at_most_handed}
use Rattle.recorder_triggers.proofs.edges.Trigger.is_beyond.Goals as goal

pub returns-then-self-eq-NO_TRIGGER : goal.returns-then-self-eq-NO_TRIGGER
unfolding is_beyond
returns-then-self-eq-NO_TRIGGER c = rw c.if-self-eq-NO_TRIGGER.true

pub returns-in-1 : goal.returns-in-1
unfolding is_beyond
returns-in-1 c =
    let t = c.args.self in
    let now = c.signed_value-now in
    let edge = c.signed_value-edge in
    rw (eq-eqb t.mode 1 c.in-1.is)
    (at_most_handed _ _ _ _ (record { sfits = edge.type_inv }) (record { sfits = now.type_inv })
    (edge.ensures ∙ ap (λ (n : ℕ). signed_value t.sign n t.threshold) c.from-size.ensures)
    (now.ensures ∙ ap (λ (n : ℕ). signed_value t.sign n c.args.this) c.from-size.ensures))

pub returns-in-2 : goal.returns-in-2
unfolding is_beyond
returns-in-2 c =
    let t = c.args.self in
    let now = c.signed_value-now in
    let edge = c.signed_value-edge in
    rw c.in-2.is
    (at_most_handed _ _ _ _ (record { sfits = now.type_inv }) (record { sfits = edge.type_inv })
    (now.ensures ∙ ap (λ (n : ℕ). signed_value t.sign n c.args.this) c.from-size.ensures)
    (edge.ensures ∙ ap (λ (n : ℕ). signed_value t.sign n t.threshold) c.from-size.ensures))

pub returns-in_default : goal.returns-in_default
unfolding is_beyond
returns-in_default c =
    let mode = c.args.self.mode in
    let not-rising : c.args.self.mode ≡ 1 → ⊥ = λ e. omega arith in
    let not-falling : c.args.self.mode ≡ 2 → ⊥ = λ e. omega arith in
    rw (ne_eqb mode 1 not-rising, ne_eqb mode 2 not-falling)
