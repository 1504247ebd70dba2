-- A fast command's length is in its code, another's is the next literal.
use mathlib.Core.Path.{sym, ap, ◌∙◌}
use mathlib.Core.List.{List, ◌∷◌}
use Prim.Native.Nat.{ℕ, suc, ◌+◌, ◌-◌, ◌%◌}
use native.Mathlib.Omega.{arith}
use borrow.Author.Tests.{lt-ltb, le-ltb}
use lib.ListN.{length, take, get_or}
use Rattle.document.specs.Sum.{total}
use Rattle.document.specs.Message.{whole_message}
use Rattle.line_captures.specs.Messages.{literals_from, found_in, entries_at}
use Rattle.line_captures.proofs.Passing.{at_literal, literals_on, literals_other, passed_none, passed_on, passed_then}
use Rattle.line_captures.proofs.Wholes.{fast_found, standard_found, none_found}
use Rattle.line_captures.proofs.messages.opened.Goals as goal

pub returns-then-command-ge-FIRST_FAST : goal.returns-then-command-ge-FIRST_FAST
returns-then-command-ge-FIRST_FAST c =
    let a = c.args in
    let bytes : List ℕ = a.bytes.now in
    let ls : List ℕ = literals_from bytes (a.at + 1) in
    let command : ℕ = get_or bytes a.at 0 in
    let counted = c.counted.ensures in
    let found =
    counted.found
    ∙ ap (λ (n : ℕ). found_in command (suc n - length ls) ((command + total (take (suc n) ls)) % 256) n) c.fast_length.ensures in
    record {
      found = λ place. fast_found place command ls c.counted.result (le-ltb _ _ c.if-command-ge-FIRST_FAST.true) found;
      passed = counted.passed;
    }

pub returns-in_default : goal.returns-in_default
returns-in_default c =
    let a = c.args in
    let bytes : List ℕ = a.bytes.now in
    let command : ℕ = get_or bytes a.at 0 in
    let none = literals_other bytes (a.at + 1) c.met_at.result c.met_at.ensures c.in_default.not-Literal in
    record {
      found = λ place.
          ap (λ (ls : List ℕ). entries_at place (whole_message (command ∷ ls))) none
          ∙ none_found place command (a.at + 1) (lt-ltb _ _ c.if-command-ge-FIRST_FAST.false);
      passed = passed_none bytes (a.at + 1) (omega arith);
    }

pub counted-requires-2 : goal.counted-requires-2
counted-requires-2 c =
    let a = c.args in
    let t = c.in-Literal in
    let is = sym c.met_at.ensures ∙ t.is in
    (at_literal a.bytes.now (a.at + 1) t.length t.from is).inside

pub returns : goal.returns
returns c =
    let a = c.args in
    let bytes : List ℕ = a.bytes.now in
    let command : ℕ = get_or bytes a.at 0 in
    let t = c.in-Literal in
    let is = sym c.met_at.ensures ∙ t.is in
    let ls : List ℕ = literals_from bytes t.from in
    let counted = c.counted-2.ensures in
    let found =
    counted.found
    ∙ ap (λ (s : ℕ). found_in command (suc t.length - length ls) ((s + total (take (suc t.length) ls)) % 256) t.length) c.added.ensures in
    record {
      found = λ place.
          ap (λ (l : List ℕ). entries_at place (whole_message (command ∷ l))) (literals_on bytes (a.at + 1) t.length t.from is)
          ∙ standard_found place command t.length ls c.counted-2.result (lt-ltb _ _ c.if-command-ge-FIRST_FAST.false) found;
      passed =
          passed_then bytes (a.at + 1) t.from c.counted-2.result.behind
          (passed_on bytes (a.at + 1) (a.at + 1) t.length t.from (passed_none bytes (a.at + 1) (omega arith)) is)
          counted.passed;
    }
