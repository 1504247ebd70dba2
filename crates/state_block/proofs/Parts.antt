-- The parts of a state one behind the other: how long each is, and that two stores that meet are one.
use mathlib.Core.Path.{◌≡◌, refl, ap, ◌∙◌}
use mathlib.Core.List.{List, [], ◌∷◌, ◌++◌}
use Prim.Native.Nat.{ℕ, ◌+◌, ◌*◌}
use native.Mathlib.Omega.{arith}
use lib.ListN.{length, replicate, length-append}
use lib.Seq.{sets}
use Rattle.document.specs.declared.Variable.{Variable}
use Rattle.variables_list.specs.declared.Variables.{Variables}
use Rattle.line_receiver.specs.declared.Receiver.{Receiver}
use Rattle.scope_state.specs.declared.Scope.{Scope}
use Rattle.recorder_state.specs.declared.state.Recorder.{Recorder}
use Rattle.document.specs.Numbers.{most_data}
use Rattle.application_state.specs.State.{Command}
use Rattle.tables_state.specs.State.{Registered, list_length}
use Rattle.state_parts.specs.Bounds.{fresh}
use Rattle.memory_ranges.proofs.Copies.{stored_append}
use Rattle.state_block.specs.Layout.{encoded_definitions, encoded_variables, encoded_run, encoded_receiver, encoded_scope, encoded_recorder, encoded_application, encoded_tables, encoded}
use Rattle.state_block.specs.Places.{receiver_length, variables_length, recorder_length, application_length, tables_length, state_length}

pub definitions_length_lem : (vs : List Variable) → length (encoded_definitions vs) ≡ length vs * 5
definitions_length_lem [] = refl
definitions_length_lem (v ∷ vs) = omega (arith, definitions_length_lem vs)

pub variables_length_lem : (v : Variables) → length v.list ≡ 8 → length (encoded_variables v) ≡ variables_length
variables_length_lem v e = omega (arith, definitions_length_lem v.list)

pub scope_length : (s : Scope) → length s.variables.list ≡ 8 → length (encoded_scope s) ≡ variables_length
unfolding encoded_scope
scope_length s e = variables_length_lem s.variables e

pub receiver_length_lem : (r : Receiver) → length (encoded_receiver r) ≡ receiver_length
unfolding encoded_receiver
receiver_length_lem r = refl

pub recorder_length_lem : (r : Recorder) → length r.plan.variables.list ≡ 8 → length (encoded_recorder r) ≡ recorder_length
unfolding encoded_recorder encoded_run
recorder_length_lem r e = simp length-append (omega (arith, definitions_length_lem r.plan.variables.list))

pub application_length_lem : (c : Command) → length c.bytes ≡ most_data → length (encoded_application c) ≡ application_length
unfolding encoded_application
application_length_lem c e = omega (arith, e)

pub tables_length_lem : (r : Registered) → length r.list ≡ list_length → length (encoded_tables r) ≡ tables_length
unfolding encoded_tables
tables_length_lem r e = omega (arith, e)

-- two stores, the second where the first ends
pub sets_two : (l xs ys : List ℕ) (i n j : ℕ) → length xs ≡ n → i + n ≡ j → sets l i (xs ++ ys) ≡ sets (sets l i xs) j ys
sets_two l xs ys i n j e f = stored_append xs ys l i ∙ ap (λ (k : ℕ). sets (sets l i xs) k ys) (omega arith)

-- reset is all zeros
pub fresh_zeros : replicate state_length 0 ≡ encoded fresh
unfolding encoded_receiver encoded_scope encoded_recorder encoded_run encoded_application encoded_tables
fresh_zeros = refl
