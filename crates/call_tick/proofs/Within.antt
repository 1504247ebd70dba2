-- A tick that nothing refuses, case by case: what is stored in the block is the encoding of what a tick leaves.
use mathlib.Core.Path.{◌≡◌, refl, sym, ap, ◌∙◌}
use mathlib.Core.Bool.{true}
use mathlib.Core.List.{List, ◌++◌}
use Prim.Native.Nat.{ℕ, ◌-◌, ◌<◌, ◌≤◌}
use native.Mathlib.Omega.{arith}
use lib.ListN.{length, get_or, set}
use lib.Seq.{sets, length-sets, set-get_or}
use Rattle.document.specs.Areas.{memory_end, bytes_at}
use Rattle.document.specs.Values.{number, little_endian}
use Rattle.document.specs.Stores.{stored}
use Rattle.document.specs.Run.{place_begins, set_of, set_taken}
use Rattle.memory_ranges.proofs.Stored.{bytes_behind}
use Rattle.bytes_fields.proofs.Ranges.{bytes_append, sets_same}
use Rattle.bytes_fields.proofs.Numbers.{number_kept}
use Rattle.recorder_plans.specs.State.{plan_of}
use Rattle.recorder_runs.specs.declared.run.Run.{Run}
use Rattle.recorder_runs.specs.State.{run_of, run_kept, with_wait}
use Rattle.recorder_runs.specs.Bounds.{run_sound}
use Rattle.recorder_state.specs.declared.state.Recorder.{Recorder}
use Rattle.recorder_state.specs.Bounds as recorder
use Rattle.recorder_taking.specs.Tick.{ticked_state}
use Rattle.recorder_taking.proofs.Taken.{Leaves, parts, runs, absent_leaves, stopped_leaves, waiting_leaves, due_leaves}
use Rattle.state_parts.specs.State.{with_recorder}
use Rattle.state_parts.specs.Bounds.{sound}
use Rattle.state_parts.proofs.Parts.{parts_of_lem}
use Rattle.state_block.specs.Places.{scope_place, recorder_place, run_place, full_place, watch_place, wait_place, place_place, value_place, state_length}
use Rattle.state_block.specs.Layout.{decoded_plan, decoded_run, decoded_recorder, decoded_instruments, decoded, encoded_run, encoded_instruments, encoded}
use Rattle.state_block.proofs.Parts.{sets_two}
use Rattle.state_block.proofs.Stored.{same_instruments, run_stored, instruments_stored}
use Rattle.call_tick.specs.Promises.{ticked_target}
use Rattle.call_tick.specs.Parts.{Due, Took, Ticked}

module _ (block memory : List ℕ) where
  module _ (long : state_length ≤ length block) (small : (i : ℕ) → get_or block i 0 < 256) where
    recorder_left : (next : Recorder) → ticked_state (decoded_recorder block) memory ≡ next
        → sets block scope_place (encoded_instruments (with_recorder (decoded_instruments block) next))
        ≡ sets block 0 (encoded (ticked_target (decoded block) memory))
    recorder_left next e =
        ap (λ (r : Recorder). sets block scope_place (encoded_instruments (with_recorder (decoded_instruments block) r))) (sym e)
        ∙ instruments_stored block long small (with_recorder (decoded_instruments block) (ticked_state (decoded_recorder block) memory))

    nothing_left : Leaves (decoded_recorder block) memory (decoded_recorder block) memory → Ticked block memory block memory
    nothing_left l =
        record {
          state = sym (same_instruments block long small) ∙ recorder_left (decoded_recorder block) l.0;
          memory_left = sym l.1;
        }

    run_left : (run : Run) (after left : List ℕ) → after ≡ sets block run_place (encoded_run run)
        → Leaves (decoded_recorder block) memory (record { ready = (decoded_recorder block).ready; plan = (decoded_recorder block).plan; run = run }) left
        → Ticked block memory after left
    run_left run after left e l =
        record { state = e ∙ run_stored block long small run ∙ recorder_left _ l.0; memory_left = sym l.1 }

    -- ---- the wait alone

    -- flags and watch, in front of the wait
    front_same : set (set (set block run_place (get_or block run_place 0)) full_place (get_or block full_place 0)) watch_place (get_or block watch_place 0) ≡ block
    front_same =
        ap (λ (l : List ℕ). set (set l full_place (get_or block full_place 0)) watch_place (get_or block watch_place 0)) (set-get_or block run_place 0)
        ∙ ap (λ (l : List ℕ). set l watch_place (get_or block watch_place 0)) (set-get_or block full_place 0)
        ∙ set-get_or block watch_place 0

    -- place and value, behind it
    behind_kept : little_endian 2 (number (bytes_at block place_place 2)) ++ little_endian 4 (number (bytes_at block value_place 4)) ≡ bytes_at block place_place 6
    behind_kept =
        (λ i. number_kept block small place_place 2 (omega arith) i ++ number_kept block small value_place 4 (omega arith) i)
        ∙ bytes_append block place_place 2 4

    wait_stored : (wait : ℕ)
        → sets block wait_place (little_endian 2 wait)
        ≡ sets block run_place
        (encoded_run (with_wait (decoded_run block) wait))
    unfolding encoded_run
    wait_stored wait =
        let behind = little_endian 2 (number (bytes_at block place_place 2)) ++ little_endian 4 (number (bytes_at block value_place 4)) in
        let waits = sets block wait_place (little_endian 2 wait) in
        sym
        (ap (λ (l : List ℕ). sets l wait_place (little_endian 2 wait ++ behind)) front_same
        ∙ sets_two block (little_endian 2 wait) behind wait_place 2 place_place refl refl
        ∙ ap (sets waits place_place) (behind_kept ∙ sym (bytes_behind (little_endian 2 wait) block wait_place place_place 6 (omega arith)))
        ∙ sets_same 6 waits place_place (omega (arith, length-sets block wait_place (little_endian 2 wait))))

    -- ---- the cases, by what is read

    pub absent_ticked : get_or block recorder_place 0 ≡ 0 → Ticked block memory block memory
    unfolding decoded_recorder
    absent_ticked e = nothing_left (absent_leaves (decoded_recorder block) memory e)

    module _ (s : sound (decoded block) ≡ true) (n : get_or block recorder_place 0 ≡ 0 → ⊥) (run : Run) (e : run ≡ decoded_run block) where
      recorder_sound : recorder.sound (decoded_recorder block) ≡ true
      recorder_sound = (parts_of_lem (decoded block) s).recorder_part

      pub stopped_ticked : run.running ≡ 0 → Ticked block memory block memory
      unfolding decoded_recorder
      stopped_ticked z =
          nothing_left (stopped_leaves (decoded_recorder block) memory recorder_sound n (ap (λ (r : Run). r.running) (sym e) ∙ z))

      module _ (g : run.running ≡ 0 → ⊥) where
        goes : (decoded_run block).running ≡ 0 → ⊥
        goes z = g (ap (λ (r : Run). r.running) e ∙ z)

        pub waiting_ticked : 0 < run.wait → (after : List ℕ) → after ≡ sets block wait_place (little_endian 2 (run.wait - 1)) → Ticked block memory after memory
        unfolding decoded_recorder
        waiting_ticked w after stored_there =
            let same : run.wait ≡ (decoded_run block).wait = ap (λ (r : Run). r.wait) e in
            run_left _ after memory
            (stored_there ∙ ap (λ (k : ℕ). sets block wait_place (little_endian 2 (k - 1))) same ∙ wait_stored ((decoded_run block).wait - 1))
            (waiting_leaves (decoded_recorder block) memory recorder_sound n goes (omega arith))

        -- what a set that is due asks for
        pub due_lent : length memory ≡ memory_end → Due block run memory
        unfolding decoded_recorder
        due_lent whole =
            let p = parts (decoded_recorder block) memory recorder_sound n in
            record {
              long = long;
              plan_sound_lem = p.plan;
              run_sound_lem = ap (run_sound (decoded_plan block)) e ∙ p.run;
              runs = ap (λ (r : Run). r.running) e ∙ runs (decoded_recorder block) memory recorder_sound n goes;
              memory_whole = whole;
            }

        pub due_ticked : run.wait ≤ 0 → (next : Run) (after left : List ℕ) → Took block run memory next left
            → after ≡ sets block run_place (encoded_run next) → Ticked block memory after left
        unfolding decoded_recorder
        due_ticked z next after left took a =
            let d = due_leaves (decoded_recorder block) memory recorder_sound n goes (sym (ap (λ (r : Run). r.wait) e) ∙ omega arith) in
            let same : next ≡ run_kept (set_taken (plan_of (decoded_plan block)) (run_of (decoded_run block)) memory) =
            took.run_after ∙ ap (λ (r : Run). run_kept (set_taken (plan_of (decoded_plan block)) (run_of r) memory)) e in
            let there = took.memory_left ∙ ap (λ (r : Run). stored memory (place_begins (plan_of (decoded_plan block)) r.place) (set_of (plan_of (decoded_plan block)) memory)) e in
            let t = run_left (run_kept (set_taken (plan_of (decoded_plan block)) (run_of (decoded_run block)) memory)) after _ (a ∙ ap (λ (r : Run). sets block run_place (encoded_run r)) same) d in
            record { state = t.state; memory_left = there ∙ t.memory_left }
