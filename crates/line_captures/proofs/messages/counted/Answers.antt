-- The class goes by the sum and the length, where nothing is missing.
use mathlib.Core.Path.{◌≡◌, refl, sym, ap, ◌∙◌}
use mathlib.Core.List.{List}
use Prim.Native.Nat.{ℕ, suc, ◌+◌, ◌-◌, ◌%◌}
use native.Mathlib.Numerals.{add-one}
use borrow.Author.Tests.{eq-eqb, ne_eqb}
use lib.ListN.{length, take}
use Rattle.std.specs.declared.option.Option.TheVariants.{None, Some}
use Rattle.document.specs.Sum.{total}
use Rattle.line_captures.specs.declared.messages.Class.{Class}
use Rattle.line_captures.specs.Messages.{literals_from, class_of, found_in}
use Rattle.line_captures.proofs.messages.counted.Goals as goal

whole : (command missing sum n : ℕ) (class : Class) → missing ≡ 0 → class ≡ class_of sum n → found_in command missing sum n ≡ Some (record { command = command; class = class })
whole command missing sum n class none is = rw (eq-eqb missing 0 none) (λ i. Some (record { command = command; class = sym is i }))

cut : (command missing sum n : ℕ) → (missing ≡ 0 → ⊥) → found_in command missing sum n ≡ None
cut command missing sum n some = rw (ne_eqb missing 0 some) refl

pub returns-then-body-eq0 : goal.returns-then-body-eq0
returns-then-body-eq0 c =
    let a = c.args in
    let read = c.taken_literals-body.ensures in
    let ls : List ℕ = literals_from a.bytes.now a.from in
    let one : c.from.result + 1 ≡ suc a.count = ap (λ (k : ℕ). k + 1) c.from.ensures ∙ add-one a.count in
    let missing = read.missing ∙ ap (λ (k : ℕ). k - length ls) one in
    let sum = read.added ∙ ap (λ (k : ℕ). (a.sum + total (take k ls)) % 256) one in
    record {
      found = sym (whole a.command _ _ a.count _ c.if-body-eq0.true c.class_of.ensures) ∙ (λ i. found_in a.command (missing i) (sum i) a.count);
      passed = read.passed;
    }

pub returns-else-body-eq0 : goal.returns-else-body-eq0
returns-else-body-eq0 c =
    let a = c.args in
    let read = c.taken_literals-body.ensures in
    let ls : List ℕ = literals_from a.bytes.now a.from in
    let one : c.from.result + 1 ≡ suc a.count = ap (λ (k : ℕ). k + 1) c.from.ensures ∙ add-one a.count in
    let missing = read.missing ∙ ap (λ (k : ℕ). k - length ls) one in
    let sum = read.added ∙ ap (λ (k : ℕ). (a.sum + total (take k ls)) % 256) one in
    record {
      found = sym (cut a.command _ _ a.count c.if-body-eq0.false) ∙ (λ i. found_in a.command (missing i) (sum i) a.count);
      passed = read.passed;
    }
