-- The one case split on the operation: what every law over commands takes from its lines and from what it does.
use mathlib.Core.Path.{◌≡◌, refl}
use mathlib.Core.Bool.{Bool, true, false, cond}
use mathlib.Core.List.{List, [], ◌∷◌}
use Prim.Native.Nat.{ℕ, zero, suc, ◌*◌, ◌≤◌}
use native.Mathlib.Omega.{arith}
use borrow.Author.Tests.{ltb-false, le-ltb, not-false}
use lib.ListN.{length, length-take, length-append}
use Rattle.document.specs.Numbers.{most_data, done, recorder_runs, recorder_stopped, is_error}
use Rattle.document.specs.Areas.{bytes_at}
use Rattle.document.specs.Variables.{address_width, set_size, values_of}
use Rattle.document.specs.Scope.{scope_variables, scope_read}
use Rattle.document.specs.Recorder.{Recorder, recorder_absent, is_running, buffer_answer}
use Rattle.document.specs.Recorder.Recorder.{absent, planned}
use Rattle.document.specs.Values.{number}
use Rattle.document.specs.Tables.{Table, table_answer}
use Rattle.document.specs.Fields.{size_field, address_field}
use Rattle.document.specs.Gate.{Gate}
use Rattle.document.specs.Permission.{may_be_written}
use Rattle.document.specs.Refusals.{lines, first_of, read_lines, write_lines, scope_read_lines, recorder_lines}
use Rattle.document.specs.Commands.{doing}
use Rattle.document.specs.Answer.{Answer}
use Rattle.document.specs.AnswerWriter.{answer_formed}
use Rattle.document.specs.declared.Operation.{Operation}
use Rattle.document.specs.declared.Operation.TheVariants.{Unserved, Describe, DescribeBriefly, Read, Write, WriteMasked, SetUpScope, ReadScope, PrepareAndStart, Start, Stop, Status, QueryBuffer, SendCommand, CommandResult, TellTable, MeasureString}
use Rattle.document.specs.declared.Service.{Service}
use Rattle.document.specs.declared.Variable.{Variable}
use Rattle.document.proofs.Cases.{split}
use Rattle.document_outcomes.specs.Changes.{change_of, changed, Accepted, Refused}
use Rattle.document_outcomes.proofs.Firsts.{Known, none_applies}

-- an answer that can be formed and says no error
pub record Right (a : Answer) : Type 0 where
  pub formed : answer_formed a ≡ true
  pub success : is_error a.status ≡ false

pub record Carried (o : Operation) (g : Gate) (s : Service) (body : List ℕ) : Type 0 where
  pub gate : (doing o g s body).gate ≡ changed (change_of o) g s body
  -- each line's status is known
  pub known : Known (lines o g s body)
  -- where no line applies
  pub accepted : first_of (lines o g s body) ≡ done → Accepted (change_of o) g s body
  -- where one does
  pub refused : (first_of (lines o g s body) ≡ done → ⊥) → Refused (change_of o) g s body
  pub answer : first_of (lines o g s body) ≡ done → Right (doing o g s body).answer

-- ---- the answers that carry data, and those that say whether the recorder runs

right_done : (body : List ℕ) → length body ≤ most_data → Right (record { status = done; body = body })
right_done body few = record { formed = rw (le-ltb most_data (length body) few) refl; success = refl }

right_runs : (runs : Bool) (a b : ℕ) → Right (record { status = a; body = [] }) → Right (record { status = b; body = [] })
    → Right (record { status = cond runs a b; body = [] })
right_runs true a b runs stopped = runs
right_runs false a b runs stopped = stopped

values_few : (vs : List Variable) (memory : List ℕ) → length (values_of memory vs) ≤ set_size vs
values_few [] memory = omega arith
values_few (v ∷ vs) memory = simp (length-append, length-take) (omega (arith, values_few vs memory))

module _ (g : Gate) (s : Service) (body : List ℕ) where
  right_read : first_of (read_lines s body) ≡ done → Right (doing Read g s body).answer
  right_read none =
      let short = (none_applies (read_lines s body) (refl, refl, (refl, refl, (refl, refl, (refl, refl, tt)))) none).1.1.0 in
      right_done (bytes_at g.memory (address_field s body) (size_field s body))
      (simp length-take (omega (arith, ltb-false most_data (size_field s body) short)))

  right_scope : first_of (scope_read_lines g) ≡ done → Right (doing ReadScope g s body).answer
  right_scope none =
      let short = (none_applies (scope_read_lines g) (refl, refl, (refl, refl, tt)) none).1.0 in
      let vs = scope_variables g.scope in
      right_done (scope_read g.scope g.memory) (omega (arith, ltb-false most_data (set_size vs) short, values_few vs g.memory))

  right_query : (ex : Bool) (r : Recorder) → Right (record { status = done; body = buffer_answer (address_width ex) r })
  right_query ex absent = record { formed = refl; success = refl }
  right_query true (planned p r) = record { formed = refl; success = refl }
  right_query false (planned p r) = record { formed = refl; success = refl }

  -- what is not refused is permitted
  permitted : (n : ℕ) → first_of (write_lines g s body n) ≡ done → may_be_written g (address_field s body) (size_field s body) ≡ true
  permitted n none =
      not-false _ (none_applies (write_lines g s body n) (refl, refl, (refl, refl, (refl, refl, tt))) none).1.1.0

  set_up_lem : first_of (recorder_lines g) ≡ done → Accepted (change_of Start) g s body
  set_up_lem none = (none_applies (recorder_lines g) (refl, refl, tt) none).0

  not_set_up_lem : (first_of (recorder_lines g) ≡ done → ⊥) → recorder_absent g.recorder ≡ true
  not_set_up_lem some = split (recorder_absent g.recorder) (λ none. none) (λ is. absurd (some (rw is refl)))

-- whatever is registered, six bytes are told of a table
six_bytes : (ts : List Table) (index : ℕ) → length (table_answer ts index) ≡ 6
six_bytes [] index = refl
six_bytes (t ∷ ts) zero = refl
six_bytes (t ∷ ts) (suc index) = six_bytes ts index

-- ---- by operation

right_alone : Right (record { status = done; body = [] })
right_alone = record { formed = refl; success = refl }

right_running : Right (record { status = recorder_runs; body = [] })
right_running = record { formed = refl; success = refl }

right_stopped : Right (record { status = recorder_stopped; body = [] })
right_stopped = record { formed = refl; success = refl }

pub carried : (o : Operation) (g : Gate) (s : Service) (body : List ℕ) → Carried o g s body
carried Unserved g s body =
    record { gate = refl; known = (refl, refl, tt); accepted = λ none. tt; refused = λ some. tt; answer = λ none. absurd (omega (arith, none)) }
carried Describe g s body =
    record { gate = refl; known = tt; accepted = λ none. tt; refused = λ some. tt; answer = λ none. record { formed = refl; success = refl } }
carried DescribeBriefly g s body =
    record { gate = refl; known = tt; accepted = λ none. tt; refused = λ some. tt; answer = λ none. record { formed = refl; success = refl } }
carried Read g s body =
    record {
      gate = refl;
      known = (refl, refl, (refl, refl, (refl, refl, (refl, refl, tt))));
      accepted = λ none. tt;
      refused = λ some. tt;
      answer = right_read g s body;
    }
carried Write g s body =
    record {
      gate = refl;
      known = (refl, refl, (refl, refl, (refl, refl, tt)));
      accepted = permitted g s body (size_field s body);
      refused = λ some. tt;
      answer = λ none. right_alone;
    }
carried WriteMasked g s body =
    record {
      gate = refl;
      known = (refl, refl, (refl, refl, (refl, refl, tt)));
      accepted = permitted g s body (2 * size_field s body);
      refused = λ some. tt;
      answer = λ none. right_alone;
    }
carried SetUpScope g s body =
    record {
      gate = refl;
      known = (refl, refl, (refl, refl, (refl, refl, tt)));
      accepted = λ none. none;
      refused = λ some. some;
      answer = λ none. right_alone;
    }
carried ReadScope g s body =
    record { gate = refl; known = (refl, refl, (refl, refl, tt)); accepted = λ none. tt; refused = λ some. tt; answer = right_scope g s body }
carried PrepareAndStart g s body =
    record {
      gate = refl;
      known = (refl, refl, (refl, refl, (refl, refl, (refl, refl, tt))));
      accepted = λ none. none;
      refused = λ some. some;
      answer = λ none. right_alone;
    }
carried Start g s body =
    record {
      gate = refl;
      known = (refl, refl, tt);
      accepted = set_up_lem g s body;
      refused = not_set_up_lem g s body;
      answer = λ none. right_runs (is_running g.recorder) recorder_runs done right_running right_alone;
    }
carried Stop g s body =
    record {
      gate = refl;
      known = (refl, refl, tt);
      accepted = set_up_lem g s body;
      refused = not_set_up_lem g s body;
      answer = λ none. right_runs (is_running g.recorder) done recorder_stopped right_alone right_stopped;
    }
carried Status g s body =
    record {
      gate = refl;
      known = (refl, refl, tt);
      accepted = λ none. tt;
      refused = λ some. tt;
      answer = λ none. right_runs (is_running g.recorder) recorder_runs recorder_stopped right_running right_stopped;
    }
carried QueryBuffer g s body =
    record { gate = refl; known = (refl, refl, (refl, refl, tt)); accepted = λ none. tt; refused = λ some. tt; answer = λ none. right_query g s body s.ex g.recorder }
carried SendCommand g s body =
    record {
      gate = refl;
      known = (refl, refl, (refl, refl, tt));
      accepted = λ none. none;
      refused = λ some. some;
      answer = λ none. right_alone;
    }
carried CommandResult g s body =
    record { gate = refl; known = tt; accepted = λ none. tt; refused = λ some. tt; answer = λ none. record { formed = refl; success = refl } }
carried TellTable g s body =
    record {
      gate = refl;
      known = (refl, refl, tt);
      accepted = λ none. tt;
      refused = λ some. tt;
      answer = λ none. right_done (table_answer g.tables (number body)) (omega (arith, six_bytes g.tables (number body)));
    }
carried MeasureString g s body =
    record {
      gate = refl;
      known = (refl, refl, (refl, refl, (refl, refl, tt)));
      accepted = λ none. tt;
      refused = λ some. tt;
      answer = λ none. record { formed = refl; success = refl };
    }
