-- The part holds as many definitions behind the reader's place as are left to take, and what was seen, with those, gives the whole.
use Rattle.std.proofs.Common.{◌≡◌, ◌+◌, ◌*◌, ◌≤◌, drop, length}
use Rattle.std.specs.Iterator.Adapters.{take_source, take_count}
use Rattle.document.specs.Variables.{definition_width, definitions_in}
use Rattle.variables_surveys.specs.Survey.{surveyed}
use Rattle.variables_surveys.proofs.Joined.{joined}
use Rattle.variables_surveys.proofs.survey_all.Given as goal

abbrev pub invariant-loop-found : goal.invariant-loop-found
invariant-loop-found l =
    let reader = take_source l.found-iterator in
    let left = take_count l.found-iterator in
    record {
      part : reader.part.now ≡ l.fn.part;
      ex : reader.ex ≡ l.fn.ex;
      room : reader.at + left * definition_width l.fn.ex ≤ length l.fn.part;
      small : l.seen.size + 255 * left ≤ 2040;
      gives : joined l.limit l.seen (definitions_in l.fn.ex left (drop reader.at l.fn.part))
          ≡ surveyed l.limit (definitions_in l.fn.ex l.fn.count (drop 1 l.fn.part));
    }
