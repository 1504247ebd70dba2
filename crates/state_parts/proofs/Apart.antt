-- Two sound states that differ in anything that is looked at stand for different gates: what a state stands for hides nothing.
use mathlib.Core.Path.{◌≡◌, refl, sym, ap, ◌∙◌}
use mathlib.Core.Bool.{true, not}
use mathlib.Core.List.{List, [], ◌∷◌, ◌++◌}
use Prim.Native.Nat.{ℕ, zero, suc, ◌*◌, ◌/◌, ◌≤◌}
use native.Mathlib.Omega.{arith}
use borrow.Author.Tests.{eqb-true, eqb-false, leb-true}
use lib.Dec.{eqb, leb}
use lib.ListN.{length, replicate, take, drop, length-take}
use Rattle.document.specs.Numbers.{most_data}
use Rattle.document.specs.Bytes.{AllBytes}
use Rattle.document.specs.Tables.{most_tables, pair_size, tables_in}
use Rattle.document.proofs.Cases.{split, and_left, and_right}
use Rattle.variables_list.specs.State.{kept}
use Rattle.scope_state.specs.declared.Scope.{Scope}
use Rattle.scope_state.specs.State.{scope_of}
use Rattle.recorder_runs.proofs.Kept.{run_again}
use Rattle.recorder_plans.specs.State.{plan_of, plan_kept}
use Rattle.recorder_state.specs.declared.state.Recorder.{Recorder}
use Rattle.recorder_state.specs.State.{recorder_of}
use Rattle.recorder_state.specs.Bounds.{sound}
use Rattle.recorder_state.proofs.Keeps.{sound_parts}
use Rattle.application_state.specs.State.{is_none, is_waiting, is_collected, is_ended, Command, application_of}
use Rattle.application_state.specs.State as application
use Rattle.tables_state.specs.State as tables
use Rattle.tables_state.specs.State.{Registered, list_length, tables_of, registered_list}
use Rattle.tables_state.proofs.Told.{pair_back}
use Rattle.state_parts.specs.State.{Instruments, gate_of}
use Rattle.state_parts.specs.Looked.{looked_scope, looked_recorder, looked, scope_kept, recorder_kept, looked_command, command_kept, looked_tables, list_of, tables_kept, instruments_kept}
use Rattle.state_parts.specs.Within.{TablesWithin}
use Rattle.state_parts.proofs.ByteLaws.{all_take}

scope_back : (s : Scope) → scope_kept (scope_of s) ≡ looked_scope s
scope_back s =
    split (eqb s.variables.count 0)
    (λ none. rw none (ap (λ (n : ℕ). record { variables = kept (take n s.variables.list) }) (sym (eqb-true s.variables.count 0 none))))
    (λ some. rw some refl)

recorder_back : (r : Recorder) → sound r ≡ true → recorder_kept (recorder_of r) ≡ looked_recorder r
recorder_back r within =
    split (eqb r.ready 0)
    (λ none. rw none refl)
    (λ some.
    let parts = sound_parts r within some in
    let ready = eqb-true r.ready 1 parts.ready in
    let run = run_again r.plan r.run parts.run in
    rw some (λ i. record { ready = sym ready i; plan = plan_kept (plan_of r.plan) (kept (plan_of r.plan).variables); run = run i }))

command_back : (c : Command) → application.sound c ≡ true → length c.bytes ≡ most_data → command_kept (application_of c) ≡ looked_command c
unfolding application.sound
command_back c within size =
    split (eqb c.phase is_waiting)
    (λ waits.
    let phase = eqb-true c.phase is_waiting waits in
    let few = leb-true c.count most_data (and_right (not (eqb c.count 0)) (leb c.count most_data) (rw phase at within)) in
    let counted : length (take c.count c.bytes) ≡ c.count = simp length-take (omega (arith, few, size)) in
    rw phase (λ i. record { phase = is_waiting; count = counted i; result = 0; bytes = take c.count c.bytes ++ drop (counted i) (replicate most_data 0) }))
    (λ passed.
    split (eqb c.phase is_none)
    (λ no. rw (eqb-true c.phase is_none no) refl)
    (λ some.
    split (eqb c.phase is_collected)
    (λ done. rw (eqb-true c.phase is_collected done) refl)
    (λ over.
    let most = leb-true c.phase is_ended (and_left (leb c.phase is_ended) _ within) in
    let phase : c.phase ≡ is_ended = omega (arith, most, eqb-false c.phase is_waiting passed, eqb-false c.phase is_none some, eqb-false c.phase is_collected over) in
    rw phase refl)))

-- a list of whole pairs is read back from its tables
list_back : (n : ℕ) (l : List ℕ) → length l ≡ n * pair_size → AllBytes l → list_of (tables_in l) ≡ l
list_back zero [] e all = refl
list_back zero (a ∷ l) e all = let x : ⊥ = omega arith in absurd x
list_back (suc n) [] e all = refl
list_back (suc n) (a ∷ []) e all = let x : ⊥ = omega arith in absurd x
list_back (suc n) (a ∷ b ∷ []) e all = let x : ⊥ = omega arith in absurd x
list_back (suc n) (a ∷ b ∷ c ∷ []) e all = let x : ⊥ = omega arith in absurd x
list_back (suc n) (a ∷ b ∷ c ∷ d ∷ l) e all =
    λ i.
    pair_back a b all.0 all.1.0 i
    ++ (pair_back c d all.1.1.0 all.1.1.1.0 i ++ list_back n l (omega arith) all.1.1.1.1 i)

tables_back : (r : Registered) → TablesWithin r → tables_kept (tables_of r) ≡ looked_tables r
unfolding tables.sound
tables_back r w =
    let n = r.count * pair_size in
    let few : r.count ≤ most_tables = leb-true r.count most_tables w.sound in
    let counted : length (take n r.list) ≡ n = simp length-take (omega (arith, few, w.size)) in
    let back = list_back r.count (take n r.list) counted (all_take n r.list w.bytes) in
    let many : length (take n r.list) / pair_size ≡ r.count = omega (arith, counted) in
    ap registered_list back
    ∙ (λ i. record { count = many i; list = take n r.list ++ drop (counted i) (replicate list_length 0) })

pub record Sound (i : Instruments) : Type 0 where
  pub recorder : sound i.recorder ≡ true
  pub application : application.sound i.application ≡ true
  pub size : length i.application.bytes ≡ most_data
  pub tables : TablesWithin i.tables

module _ (i : Instruments) (within : Sound i) (memory : List ℕ) where
  -- all that is looked at can be read off the gate
  pub instruments_back : instruments_kept (gate_of i memory) ≡ looked i
  instruments_back = λ j. record { scope = scope_back i.scope j; recorder = recorder_back i.recorder within.recorder j; application = command_back i.application within.application within.size j; tables = tables_back i.tables within.tables j }

pub gates_apart : (i j : Instruments) → Sound i → Sound j → (memory : List ℕ)
    → gate_of i memory ≡ gate_of j memory → looked i ≡ looked j
gates_apart i j within-i within-j memory same =
    sym (instruments_back i within-i memory) ∙ ap instruments_kept same ∙ instruments_back j within-j memory
