-- The numbers of every state since reset fit the widths that a block has for them.
use mathlib.Core.Path.{◌≡◌, sym, ap, subst, ◌∙◌}
use mathlib.Core.Bool.{Bool, true, false, cond}
use mathlib.Core.List.{List, [], ◌∷◌}
use Prim.Native.Nat.{ℕ, zero, suc, ◌+◌, ◌^◌, ◌<◌, ◌≤◌}
use native.Mathlib.Omega.{arith}
use borrow.Author.Tests.{eqb-true, eqb-false}
use lib.Dec.{eqb}
use lib.ListN.{length, get_or, set, take, drop, length-take}
use lib.Seq.{sets, length-sets}
use Rattle.document.specs.Numbers.{done}
use Rattle.document.specs.Areas.{bytes_at}
use Rattle.document.specs.Values.{number}
use Rattle.document.specs.declared.Variable.{Variable}
use Rattle.document.specs.Variables.{address_width, definition_width, definitions_in, count_in, variables_in}
use Rattle.document.specs.Plan.{mode_field, trigger_size_field, trigger_in, plan_in, variables_part, recorded_in, head_width}
use Rattle.document.specs.Run.{started, prepared, ran_tick}
use Rattle.document.proofs.Cases.{split}
use Rattle.memory_ranges.proofs.Widths.{four_bytes}
use Rattle.variables_list.specs.State.{no_variables, kept}
use Rattle.scope_state.specs.declared.Scope.{Scope}
use Rattle.scope_state.specs.Setup as scope
use Rattle.scope_state.proofs.Accepted.{next_taken, next_refused}
use Rattle.recorder_plans.specs.declared.plan.Plan.{Plan as PlanState}
use Rattle.recorder_plans.specs.State.{plan_kept, plan_of}
use Rattle.recorder_plans.specs.Bounds.{plan_sound}
use Rattle.recorder_plans.proofs.Granted.{plan_bounds}
use Rattle.recorder_runs.specs.declared.run.Run.{Run as RunState}
use Rattle.recorder_state.specs.declared.state.Recorder.{Recorder as RecorderState}
use Rattle.recorder_runs.specs.State.{run_of, run_kept, halted_run}
use Rattle.recorder_state.specs.State.{recorder_of, with_run, no_recorder}
use Rattle.recorder_runs.specs.Bounds.{run_sound}
use Rattle.recorder_state.specs.Bounds.{sound}
use Rattle.recorder_state.specs.Preparing.{prepared_state}
use Rattle.recorder_state.specs.Calls.{start_status, stop_status, started_state, halted_state}
use Rattle.recorder_taking.specs.Tick.{ticked_state}
use Rattle.recorder_runs.proofs.Granted.{run_bounds, previous_fits, left_fits_post}
use Rattle.recorder_runs.proofs.Kept.{by_watch}
use Rattle.recorder_state.proofs.Keeps.{sound_parts}
use Rattle.document.specs.Bytes.{AllBytes}
use Rattle.state_parts.specs.Widths.{VariablesFit, PlanFits, RunFits, RecorderFits}
use Rattle.state_parts.proofs.ByteLaws.{take_short, all_take, all_drop, all_range, number_below_256}

-- ---- definitions whose addresses fit
abbrev AllFit : List Variable → Type 0
AllFit [] = Unit {0}
AllFit (v ∷ vs) = (v.address < 256 ^ 4) × AllFit vs

fit_at : (vs : List Variable) → AllFit vs → (i : ℕ) → (get_or vs i (record { address = 0; size = 0 })).address < 256 ^ 4
fit_at [] all i = omega arith
fit_at (v ∷ vs) all zero = all.0
fit_at (v ∷ vs) all (suc i) = fit_at vs all.1 i

fit_set : (vs : List Variable) (i : ℕ) (v : Variable) → AllFit vs → v.address < 256 ^ 4 → AllFit (set vs i v)
fit_set [] i v all h = tt
fit_set (w ∷ vs) zero v all h = (h, all.1)
fit_set (w ∷ vs) (suc i) v all h = (all.0, fit_set vs i v all.1 h)

fit_sets : (ws vs : List Variable) (i : ℕ) → AllFit vs → AllFit ws → AllFit (sets vs i ws)
fit_sets [] vs i p q = p
fit_sets (w ∷ ws) vs i p q = fit_sets ws (set vs i w) (suc i) (fit_set vs i w p q.0) q.1

pub range_below : (body : List ℕ) (at n : ℕ) → AllBytes body → number (bytes_at body at n) < 256 ^ n
range_below body at n all = number_below_256 (bytes_at body at n) n (all_range body at n all) (take_short n (drop at body))

address_below : (ex : Bool) (body : List ℕ) (at : ℕ) → AllBytes body → number (bytes_at body at (address_width ex)) < 256 ^ 4
address_below true body at all = range_below body at 4 all
address_below false body at all = omega (arith, range_below body at 2 all)

definitions_fit : (ex : Bool) (n : ℕ) (part : List ℕ) → AllBytes part → AllFit (definitions_in ex n part)
definitions_fit ex zero part all = tt
definitions_fit ex (suc n) part all =
    (address_below ex part 1 all, definitions_fit ex n (drop (definition_width ex) part) (all_drop (definition_width ex) part all))

pub kept_fit : (vs : List Variable) → AllFit vs → VariablesFit (kept vs)
kept_fit vs all =
    record {
      eight = length-sets no_variables 0 vs;
      addresses = fit_at (sets no_variables 0 vs) (fit_sets vs no_variables 0 none all);
    }
  where
    none : AllFit no_variables
    none = (omega arith, (omega arith, (omega arith, (omega arith, (omega arith, (omega arith, (omega arith, (omega arith, tt))))))))

-- ---- a setup's plan
trigger_fit : (ex : Bool) (body : List ℕ) → AllBytes body
    → ((trigger_in ex body).address < 256 ^ 4) × ((trigger_in ex body).threshold < 256 ^ 4)
trigger_fit ex body all =
    split (eqb (mode_field body) 0)
    (λ none. rw none (omega arith, omega arith))
    (λ some.
    let size : ℕ = trigger_size_field ex body in
    let four : List ℕ = bytes_at body (9 + address_width ex) 4 in
    rw some (
      address_below ex body 7 all,
      number_below_256 (take size four) 4 (all_take size four (all_range body (9 + address_width ex) 4 all)) (front_short size four (take_short 4 (drop (9 + address_width ex) body))),
    ))
  where
    front_short : (n : ℕ) (l : List ℕ) → length l ≤ 4 → length (take n l) ≤ 4
    front_short n l h = rw length-take (omega (arith, h))

plan_fit : (ex : Bool) (body : List ℕ) → AllBytes body → PlanFits (plan_kept (plan_in ex body) (kept (recorded_in ex body)))
unfolding plan_in
plan_fit ex body all =
    let t = trigger_fit ex body all in
    record {
      samples = range_below body 1 2 all;
      after = range_below body 3 2 all;
      divider = range_below body 5 2 all;
      address = t.0;
      threshold = t.1;
      variables =
          kept_fit (recorded_in ex body)
          (definitions_fit ex (count_in (variables_part ex body)) (drop 1 (variables_part ex body))
          (all_drop 1 (variables_part ex body) (all_drop (head_width ex) body all)));
    }

-- ---- a run within bounds
run_fit : (p : PlanState) (r : RunState) → PlanFits p → plan_sound p ≡ true → run_sound p r ≡ true → RunFits r
run_fit p r fits ps rs =
    let b = run_bounds p r rs in
    let size : p.size ≤ 4 = (plan_bounds p ps).trigger.small in
    record {
      wait = omega (arith, b.wait, fits.divider);
      place = omega (arith, b.place, fits.samples);
      value =
          by_watch p.size p.post_trigger r.running r.watch r.value b.watch
          (λ e zero-value. omega (arith, zero-value))
          (λ e. omega (arith, previous_fits p.size p.post_trigger r.running r.watch r.value b.watch e, four_bytes p.size size))
          (λ n0 n1 e. omega (arith, left_fits_post p.size p.post_trigger r.running r.watch r.value b.watch n0 n1, fits.after));
    }

halted_run_fit : (r : RunState) → RunFits r → RunFits (halted_run r)
halted_run_fit r fits = record { wait = fits.wait; place = fits.place; value = fits.value }

-- a run as a start leaves it, or a preparing
started_run_fit : RunFits (run_kept started)
started_run_fit = record { wait = omega arith; place = omega arith; value = omega arith }

prepared_run_fit : RunFits (run_kept prepared)
prepared_run_fit = halted_run_fit (run_kept started) started_run_fit

-- ---- what the calls of scope and recorder leave
pub scope_fit : (s : Scope) (ex : Bool) (body : List ℕ) → AllBytes body → VariablesFit s.variables → VariablesFit (scope.set_up_next s ex body).variables
scope_fit s ex body all fits =
    split (eqb (scope.set_up_status ex body) done)
    (λ t. subst (λ (q : Scope). VariablesFit q.variables) (sym (next_taken ex body s (eqb-true _ _ t)))
    (kept_fit (variables_in ex body) (definitions_fit ex (count_in body) (drop 1 body) (all_drop 1 body all))))
    (λ f. subst (λ (q : Scope). VariablesFit q.variables) (sym (next_refused ex body s (eqb-false _ _ f))) fits)

pub prepared_fit : (ex : Bool) (body : List ℕ) → AllBytes body → RecorderFits (prepared_state ex body)
prepared_fit ex body all =
    record { plan = plan_fit ex body all; run = prepared_run_fit }

pub started_fit : (r : RecorderState) → RecorderFits r → RecorderFits (started_state r)
started_fit r fits =
    split (eqb (start_status (recorder_of r)) done)
    (λ t. rw t (record { plan = fits.plan; run = started_run_fit }))
    (λ f. rw f fits)

pub halted_fit : (r : RecorderState) → RecorderFits r → RecorderFits (halted_state r)
halted_fit r fits =
    split (eqb (stop_status (recorder_of r)) done)
    (λ t. rw t (record { plan = fits.plan; run = halted_run_fit r.run fits.run }))
    (λ f. rw f fits)

pub ticked_fit : (r : RecorderState) (m : List ℕ) → sound (ticked_state r m) ≡ true → RecorderFits r → RecorderFits (ticked_state r m)
ticked_fit r m s fits =
    split (eqb r.ready 0)
    (λ t. rw t fits)
    (λ f.
    let next : RecorderState = with_run r (ran_tick (plan_of r.plan) (run_of r.run) m) in
    let same : ticked_state r m ≡ next = ap (λ (b : Bool). cond b r next) f in
    let parts = sound_parts next (ap sound (sym same) ∙ s) f in
    subst (λ (q : RecorderState). RecorderFits q) (sym same)
    (record { plan = fits.plan; run = run_fit r.plan next.run fits.plan parts.plan parts.run }))

pub no_recorder_fit : RecorderFits no_recorder
no_recorder_fit =
    record {
      plan =
          record {
            samples = omega arith;
            after = omega arith;
            divider = omega arith;
            address = omega arith;
            threshold = omega arith;
            variables = kept_fit [] tt;
          };
      run = prepared_run_fit;
    }
