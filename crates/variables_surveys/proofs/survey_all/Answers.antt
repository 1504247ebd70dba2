-- The definition that the reader gives is the first of those that were left, and is looked at; where it gives none, none was left.
use Rattle.std.proofs.Common.{◌≡◌, ◌∙◌, ◌+◌, ◌*◌, ◌<◌, ◌≤◌, ℕ, zero, suc, List, Some, None, refl, sym, ap, arith, drop, length, Bool}
use Rattle.std.specs.Iterator.Adapters.{take_source, take_count}
use Rattle.document.specs.declared.Variable.{Variable}
use Rattle.document.specs.Variables.{definition_width, definitions_in, definition_in}
use Rattle.variables_definitions.specs.declared.reader.Reader.{Reader}
use Rattle.variables_definitions.specs.Parts.{definition_at, place_behind}
use Rattle.variables_definitions.proofs.Read.{place_next, found_there, found_next}
use Rattle.variables_surveys.specs.declared.Surveyed.{Surveyed}
use Rattle.variables_surveys.specs.Survey.{looked_at}
use Rattle.variables_surveys.proofs.Joined.{joined, joined_next, joined_none}
use Rattle.variables_surveys.proofs.survey_all.Goals as goal

none_left : (part : List ℕ) (ex : Bool) (at left : ℕ) → at + left * definition_width ex ≤ length part → (0 < left → None ≡ definition_at ex part at) → left ≡ 0
none_left part ex at zero room none = refl
none_left part ex at (suc more) room none = let x : ⊥ = cc (none (omega arith), found_there part ex at more room) in absurd x

pub loop-found-preserved : goal.loop-found-preserved
loop-found-preserved c =
    let s = c.args.part.now in
    let x = c.args.ex in
    let m = c.args.limit in
    let l = c.loop-found in
    let before = take_source l.found-iterator in
    let more = take_count c.next.new.self in
    let steps = c.in-Some.ensures.steps in
    let left : take_count l.found-iterator ≡ suc more = omega (arith, steps.1) in
    let room : before.at + suc more * definition_width x ≤ length s = rw left at l.invariant.room in
    let rest = definitions_in x more (drop (place_behind x s before.at) s) in
    let at : (take_source c.next.new.self).at ≡ place_behind x s before.at =
    ap (λ (r : Reader). r.at) steps.0.1 ∙ (λ i. place_behind (l.invariant.ex i) (l.invariant.part i) before.at) in
    let there : Some c.in-Some.found ≡ Some (definition_in x (drop before.at s)) =
    steps.0.0 ∙ (λ i. definition_at (l.invariant.ex i) (l.invariant.part i) before.at) ∙ found_there s x before.at more room in
    let found : c.in-Some.found ≡ definition_in x (drop before.at s) = cc there in
    record {
      part = ap (λ (r : Reader). r.part.now) steps.0.1 ∙ l.invariant.part;
      ex = ap (λ (r : Reader). r.ex) steps.0.1 ∙ l.invariant.ex;
      room = omega (arith, at, place_next s x before.at more room, room);
      small = omega (arith, c.looked_at-seen.ensures.1, left, l.invariant.small);
      gives =
          ap (λ (p : ℕ). joined m c.looked_at-seen.result (definitions_in x more (drop p s))) at
          ∙ ap (λ (z : Surveyed). joined m z rest) c.looked_at-seen.ensures.0
          ∙ ap (λ (v : Variable). joined m (looked_at m l.seen v) rest) found
          ∙ joined_next m l.seen (definition_in x (drop before.at s)) rest
          ∙ sym (ap (joined m l.seen) (found_next s x before.at more room))
          ∙ rw left at l.invariant.gives;
    }

pub returns : goal.returns
returns c =
    let s = c.args.part.now in
    let x = c.args.ex in
    let l = c.loop-found in
    let before = take_source l.found-iterator in
    let steps = c.in-None.ensures.steps in
    let left : take_count l.found-iterator ≡ 0 =
    none_left s x before.at (take_count l.found-iterator) l.invariant.room
    (λ some. (steps some).0 ∙ (λ i. definition_at (l.invariant.ex i) (l.invariant.part i) before.at)) in
    (sym (joined_none c.args.limit l.seen) ∙ rw left at l.invariant.gives, omega (arith, l.invariant.small))
