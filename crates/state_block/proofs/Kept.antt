-- What is decoded and encoded again is the block as it was, part by part and whole.
use mathlib.Core.Path.{◌≡◌, refl, ap, ◌∙◌}
use mathlib.Core.List.{List, [], ◌∷◌, ◌++◌}
use Prim.Native.Nat.{ℕ, zero, suc, ◌+◌, ◌<◌, ◌≤◌}
use native.Mathlib.Omega.{arith}
use lib.ListN.{length, get_or, take}
use Rattle.document.specs.Numbers.{most_data}
use Rattle.document.specs.Areas.{bytes_at}
use Rattle.recorder_runs.specs.declared.run.Run.{Run}
use Rattle.tables_state.specs.State.{list_length}
use Rattle.state_block.specs.Layout.{decoded_receiver, decoded_definitions, decoded_variables, decoded_scope, decoded_plan, decoded_recorder, decoded_application, decoded_tables, decoded_instruments, decoded, encoded_receiver, encoded_variables, encoded_scope, encoded_numbers, encoded_run, encoded_recorder, encoded_application, encoded_tables, encoded_instruments, encoded}
use Rattle.state_block.specs.Places.{receiver_length, definitions_length, variables_length, numbers_length, plan_length, run_length, recorder_length, application_length, tables_length, instruments_length, body_place, scope_place, recorder_place, plan_place, samples_place, post_trigger_place, divider_place, trigger_address_place, trigger_size_place, sign_place, threshold_place, recorded_place, run_place, full_place, watch_place, wait_place, place_place, value_place, application_place, command_place, tables_place, state_length}
use Rattle.bytes_fields.proofs.Ranges.{bytes_cons, bytes_append}
use Rattle.bytes_fields.proofs.Numbers.{number_kept}
use Rattle.state_block.proofs.Definitions.{definitions_kept}

-- n bytes one by one
abbrev each : List ℕ → ℕ → ℕ → List ℕ
each l i zero = []
each l i (suc n) = get_or l i 0 ∷ each l (suc i) n

each_bytes : (n : ℕ) (l : List ℕ) (i : ℕ) → i + n ≤ length l → each l i n ≡ bytes_at l i n
each_bytes zero l i h = refl
each_bytes (suc n) l i h =
    ap (λ (k : List ℕ). get_or l i 0 ∷ k) (each_bytes n l (suc i) (omega arith)) ∙ bytes_cons l i n (omega arith)

module _ (l : List ℕ) (small : (i : ℕ) → get_or l i 0 < 256) where
  module _ (long : state_length ≤ length l) where
    pub receiver_kept : encoded_receiver (decoded_receiver l) ≡ bytes_at l 0 receiver_length
    unfolding encoded_receiver decoded_receiver
    receiver_kept = each_bytes receiver_length l 0 (omega arith)

    variables_kept : (at : ℕ) → at + variables_length ≤ length l → encoded_variables (decoded_variables l at) ≡ bytes_at l at variables_length
    unfolding decoded_definitions
    variables_kept at h =
        let e : at + 1 ≡ suc at = omega arith in
        ap (λ (k : List ℕ). get_or l at 0 ∷ k) (definitions_kept 8 l (at + 1) small (omega arith) ∙ ap (λ (k : ℕ). bytes_at l k definitions_length) e)
        ∙ bytes_cons l at definitions_length (omega arith)

    pub scope_kept_lem : encoded_scope (decoded_scope l) ≡ bytes_at l scope_place variables_length
    unfolding encoded_scope decoded_scope
    scope_kept_lem = variables_kept scope_place (omega arith)

    trigger_kept : get_or l trigger_size_place 0 ∷ get_or l sign_place 0 ∷ bytes_at l threshold_place 4 ≡ bytes_at l trigger_size_place 6
    trigger_kept = ap (λ (k : List ℕ). get_or l trigger_size_place 0 ∷ k) (bytes_cons l sign_place 4 (omega arith)) ∙ bytes_cons l trigger_size_place 5 (omega arith)

    numbers_kept : encoded_numbers (decoded_plan l) ≡ bytes_at l plan_place numbers_length
    numbers_kept =
        (λ i.
        (get_or l plan_place 0 ∷ number_kept l small samples_place 2 (omega arith) i)
        ++ number_kept l small post_trigger_place 2 (omega arith) i
        ++ number_kept l small divider_place 2 (omega arith) i
        ++ number_kept l small trigger_address_place 4 (omega arith) i
        ++ (get_or l trigger_size_place 0 ∷ get_or l sign_place 0 ∷ number_kept l small threshold_place 4 (omega arith) i))
        ∙ (λ i. bytes_cons l plan_place 2 (omega arith) i ++ bytes_at l post_trigger_place 2 ++ bytes_at l divider_place 2 ++ bytes_at l trigger_address_place 4 ++ trigger_kept i)
        ∙ (λ i. bytes_append l plan_place 3 2 i ++ bytes_at l divider_place 2 ++ bytes_at l trigger_address_place 4 ++ bytes_at l trigger_size_place 6)
        ∙ (λ i. bytes_append l plan_place 5 2 i ++ bytes_at l trigger_address_place 4 ++ bytes_at l trigger_size_place 6)
        ∙ (λ i. bytes_append l plan_place 7 4 i ++ bytes_at l trigger_size_place 6)
        ∙ bytes_append l plan_place 11 6

    -- a recorder with another run
    pub recorder_kept_lem : (run : Run)
        → encoded_recorder (record { ready = (decoded_recorder l).ready; plan = (decoded_recorder l).plan; run = run }) ≡ bytes_at l recorder_place (1 + plan_length) ++ encoded_run run
    unfolding encoded_recorder decoded_recorder
    recorder_kept_lem run =
        (λ i. (get_or l recorder_place 0 ∷ numbers_kept i) ++ variables_kept recorded_place (omega arith) i ++ encoded_run run)
        ∙ (λ i. bytes_cons l recorder_place numbers_length (omega arith) i ++ bytes_at l recorded_place variables_length ++ encoded_run run)
        ∙ (λ i. bytes_append l recorder_place (1 + numbers_length) variables_length i ++ encoded_run run)

    run_kept_lem : encoded_run (decoded_recorder l).run ≡ bytes_at l run_place run_length
    unfolding encoded_run decoded_recorder
    run_kept_lem =
        (λ i.
        (get_or l run_place 0 ∷ get_or l full_place 0 ∷ get_or l watch_place 0 ∷ number_kept l small wait_place 2 (omega arith) i)
        ++ number_kept l small place_place 2 (omega arith) i
        ++ number_kept l small value_place 4 (omega arith) i)
        ∙ (λ i. each_bytes 3 l run_place (omega arith) i ++ bytes_at l wait_place 2 ++ bytes_at l place_place 2 ++ bytes_at l value_place 4)
        ∙ (λ i. bytes_append l run_place 3 2 i ++ bytes_at l place_place 2 ++ bytes_at l value_place 4)
        ∙ (λ i. bytes_append l run_place 5 2 i ++ bytes_at l value_place 4)
        ∙ bytes_append l run_place 7 4

    pub same_recorder_kept : encoded_recorder (decoded_recorder l) ≡ bytes_at l recorder_place recorder_length
    same_recorder_kept =
        recorder_kept_lem (decoded_recorder l).run
        ∙ ap (λ (k : List ℕ). bytes_at l recorder_place (1 + plan_length) ++ k) run_kept_lem
        ∙ bytes_append l recorder_place (1 + plan_length) run_length

    pub application_kept : encoded_application (decoded_application l) ≡ bytes_at l application_place application_length
    unfolding encoded_application decoded_application
    application_kept =
        ap (λ (k : List ℕ). k ++ bytes_at l command_place most_data) (each_bytes 3 l application_place (omega arith))
        ∙ bytes_append l application_place 3 most_data

    pub tables_kept_lem : encoded_tables (decoded_tables l) ≡ bytes_at l tables_place tables_length
    unfolding encoded_tables decoded_tables
    tables_kept_lem = bytes_cons l tables_place list_length (omega arith)

    -- what stands behind the recorder, and behind the scope
    pub behind_recorder_kept : encoded_application (decoded_application l) ++ encoded_tables (decoded_tables l) ≡ bytes_at l application_place (application_length + tables_length)
    behind_recorder_kept = (λ i. application_kept i ++ tables_kept_lem i) ∙ bytes_append l application_place application_length tables_length

    pub behind-scope-kept :
        encoded_recorder (decoded_recorder l) ++ (encoded_application (decoded_application l) ++ encoded_tables (decoded_tables l))
        ≡ bytes_at l recorder_place (recorder_length + (application_length + tables_length))
    behind-scope-kept =
        (λ i. same_recorder_kept i ++ behind_recorder_kept i) ∙ bytes_append l recorder_place recorder_length (application_length + tables_length)

    pub instruments_kept_lem : encoded_instruments (decoded_instruments l) ≡ bytes_at l scope_place instruments_length
    instruments_kept_lem =
        (λ i. scope_kept_lem i ++ behind-scope-kept i)
        ∙ bytes_append l scope_place variables_length (recorder_length + (application_length + tables_length))

    -- the whole
    pub encoded_decoded : encoded (decoded l) ≡ take state_length l
    encoded_decoded =
        (λ i. receiver_kept i ++ (ap (λ (k : List ℕ). bytes_at l body_place most_data ++ k) instruments_kept_lem ∙ bytes_append l body_place most_data instruments_length) i)
        ∙ bytes_append l 0 receiver_length (most_data + instruments_length)
