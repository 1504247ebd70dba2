-- What is encoded and decoded again is the state that it was, whatever stands behind it: each part is found at its place, and a
-- number that fits its width is read back.
use mathlib.Core.Path.{◌≡◌, refl, sym, ap, ◌∙◌}
use mathlib.Core.Bool.{true}
use mathlib.Core.List.{List, [], ◌∷◌, ◌++◌, append_assoc}
use Prim.Native.Nat.{ℕ, suc, ◌+◌, ◌^◌, ◌<◌, ◌≤◌}
use native.Mathlib.Omega.{arith}
use lib.ListN.{length, get_or, take, drop, length-append}
use lib.Seq.{sets, sets-eq, drop_at, take_at, drop-drop, get_or-drop}
use Rattle.document.specs.Numbers.{most_data}
use Rattle.document.specs.Areas.{bytes_at}
use Rattle.document.specs.Values.{number}
use Rattle.document.specs.declared.Variable.{Variable}
use Rattle.document.specs.Variables.{definitions_in}
use Rattle.line_receiver.specs.declared.Receiver.{Receiver}
use Rattle.scope_state.specs.declared.Scope.{Scope}
use Rattle.recorder_runs.specs.declared.run.Run.{Run}
use Rattle.recorder_state.specs.declared.state.Recorder.{Recorder}
use Rattle.document.proofs.Values.{number_back}
use Rattle.application_state.specs.State.{Command}
use Rattle.tables_state.specs.State.{Registered, list_length}
use Rattle.state_parts.specs.State.{Target}
use Rattle.state_parts.specs.Widths.{VariablesFit, PlanFits, RunFits, TargetFits}
use Rattle.state_block.specs.Places.{definitions_length, variables_length, numbers_length, plan_length, recorder_length, application_length, body_place, scope_place, recorder_place, recorded_place, run_place, application_place, command_place, tables_place, list_place, state_length}
use Rattle.state_block.specs.Layout.{decoded_receiver, decoded_definitions, decoded_scope, decoded_plan, decoded_run, decoded_recorder, decoded_application, decoded_tables, decoded, encoded_receiver, encoded_definitions, encoded_scope, encoded_run, encoded_recorder, encoded_application, encoded_tables, encoded}
use Rattle.state_block.proofs.Parts.{receiver_length_lem, definitions_length_lem, scope_length, recorder_length_lem, application_length_lem, tables_length_lem}

-- ---- definitions

definitions_back : (vs : List Variable) (rest : List ℕ) → ((i : ℕ) → (get_or vs i (record { address = 0; size = 0 })).address < 256 ^ 4)
    → definitions_in true (length vs) (encoded_definitions vs ++ rest) ≡ vs
definitions_back [] rest fits = refl
definitions_back (v ∷ vs) rest fits =
    λ i. record { size = v.size; address = number_back 4 v.address (fits 0) i } ∷ definitions_back vs rest (λ j. fits (suc j)) i

eight_back : (vs : List Variable) (rest : List ℕ) → length vs ≡ 8 → ((i : ℕ) → (get_or vs i (record { address = 0; size = 0 })).address < 256 ^ 4)
    → definitions_in true 8 (encoded_definitions vs ++ rest) ≡ vs
eight_back vs rest e fits = ap (λ (n : ℕ). definitions_in true n (encoded_definitions vs ++ rest)) (sym e) ∙ definitions_back vs rest fits

-- ---- the parts, from where each begins

receiver_back : (r : Receiver) (rest : List ℕ) → decoded_receiver (encoded_receiver r ++ rest) ≡ r
unfolding decoded_receiver encoded_receiver
receiver_back r rest = refl

scope_back : (l rest : List ℕ) (s : Scope) → VariablesFit s.variables → drop scope_place l ≡ encoded_scope s ++ rest → decoded_scope l ≡ s
unfolding decoded_scope encoded_scope decoded_definitions
scope_back l rest s fits e = λ i. record { variables = record { count = counted i; list = listed i } }
  where
    counted : get_or l scope_place 0 ≡ s.variables.count
    counted = sym (get_or-drop scope_place l 0 0) ∙ ap (λ (k : List ℕ). get_or k 0 0) e

    listed : definitions_in true 8 (drop (scope_place + 1) l) ≡ s.variables.list
    listed =
        ap (definitions_in true 8) (sym (drop-drop 1 scope_place l) ∙ ap (drop 1) e)
        ∙ eight_back s.variables.list rest fits.eight fits.addresses

-- a byte and a number behind a place from which the block is known
byte_there : (l q : List ℕ) (base k x : ℕ) → drop base l ≡ q → get_or q k 0 ≡ x → get_or l (base + k) 0 ≡ x
byte_there l q base k x e h = sym (get_or-drop base l k 0) ∙ ap (λ (m : List ℕ). get_or m k 0) e ∙ h

number_there : (l q : List ℕ) (base k n x : ℕ) → drop base l ≡ q → number (bytes_at q k n) ≡ x → number (bytes_at l (base + k) n) ≡ x
number_there l q base k n x e h = ap (λ (m : List ℕ). number (take n m)) (sym (drop-drop k base l) ∙ ap (drop k) e) ∙ h

module _ (l rest : List ℕ) (r : Run) (e : drop run_place l ≡ encoded_run r ++ rest) where
  byte_of_run : (k x : ℕ) → get_or (encoded_run r ++ rest) k 0 ≡ x → get_or l (run_place + k) 0 ≡ x
  byte_of_run k x h = byte_there l (encoded_run r ++ rest) run_place k x e h

  number_of_run : (k n x : ℕ) → number (bytes_at (encoded_run r ++ rest) k n) ≡ x → number (bytes_at l (run_place + k) n) ≡ x
  number_of_run k n x h = number_there l (encoded_run r ++ rest) run_place k n x e h

  run_back : RunFits r → decoded_run l ≡ r
  unfolding encoded_run
  run_back fits =
      λ i.
      record {
        running = byte_of_run 0 r.running refl i;
        full = byte_of_run 1 r.full refl i;
        watch = byte_of_run 2 r.watch refl i;
        wait = number_of_run 3 2 r.wait (number_back 2 r.wait fits.wait) i;
        place = number_of_run 5 2 r.place (number_back 2 r.place fits.place) i;
        value = number_of_run 7 4 r.value (number_back 4 r.value fits.value) i;
      }

module _ (l rest : List ℕ) (r : Recorder) (e : drop recorder_place l ≡ encoded_recorder r ++ rest) where
  byte_of_plan : (k x : ℕ) → get_or (encoded_recorder r ++ rest) k 0 ≡ x → get_or l (recorder_place + k) 0 ≡ x
  byte_of_plan k x h = byte_there l (encoded_recorder r ++ rest) recorder_place k x e h

  number_of_plan : (k n x : ℕ) → number (bytes_at (encoded_recorder r ++ rest) k n) ≡ x → number (bytes_at l (recorder_place + k) n) ≡ x
  number_of_plan k n x h = number_there l (encoded_recorder r ++ rest) recorder_place k n x e h

  module _ (fits : PlanFits r.plan) where
    listed : decoded_definitions l (recorded_place + 1) ≡ r.plan.variables.list
    unfolding decoded_definitions encoded_recorder
    listed =
        ap (definitions_in true 8)
        (sym (drop-drop (2 + numbers_length) recorder_place l)
        ∙ ap (drop (2 + numbers_length)) e
        ∙ append_assoc (encoded_definitions r.plan.variables.list) (encoded_run r.run) rest)
        ∙ eight_back r.plan.variables.list (encoded_run r.run ++ rest) fits.variables.eight fits.variables.addresses

    -- what stands behind the definitions
    behind : drop run_place l ≡ encoded_run r.run ++ rest
    unfolding encoded_recorder
    behind =
        sym (drop-drop (1 + plan_length) recorder_place l)
        ∙ ap (drop (1 + plan_length)) e
        ∙ ap (drop definitions_length) (append_assoc (encoded_definitions r.plan.variables.list) (encoded_run r.run) rest)
        ∙ drop_at (encoded_definitions r.plan.variables.list) (encoded_run r.run ++ rest) definitions_length (omega (arith, definitions_length_lem r.plan.variables.list, fits.variables.eight))

    plan_back : decoded_plan l ≡ r.plan
    unfolding encoded_recorder
    plan_back =
        let p = r.plan in
        λ i.
        record {
          mode = byte_of_plan 1 p.mode refl i;
          samples = number_of_plan 2 2 p.samples (number_back 2 p.samples fits.samples) i;
          post_trigger = number_of_plan 4 2 p.post_trigger (number_back 2 p.post_trigger fits.after) i;
          divider = number_of_plan 6 2 p.divider (number_back 2 p.divider fits.divider) i;
          address = number_of_plan 8 4 p.address (number_back 4 p.address fits.address) i;
          size = byte_of_plan 12 p.size refl i;
          sign = byte_of_plan 13 p.sign refl i;
          threshold = number_of_plan 14 4 p.threshold (number_back 4 p.threshold fits.threshold) i;
          variables = record { count = byte_of_plan 18 p.variables.count refl i; list = listed i };
        }

    recorder_back : RunFits r.run → decoded_recorder l ≡ r
    unfolding decoded_recorder encoded_recorder
    recorder_back run =
        λ i. record { ready = byte_of_plan 0 r.ready refl i; plan = plan_back i; run = run_back l rest r.run behind run i }

application_back : (l rest : List ℕ) (c : Command) → length c.bytes ≡ most_data → drop application_place l ≡ encoded_application c ++ rest → decoded_application l ≡ c
unfolding encoded_application decoded_application
application_back l rest c size e =
    let q : List ℕ = c.phase ∷ c.count ∷ c.result ∷ (c.bytes ++ rest) in
    let command : bytes_at l command_place most_data ≡ c.bytes =
    ap (take most_data) (sym (drop-drop 3 application_place l) ∙ ap (drop 3) e) ∙ take_at c.bytes rest most_data size in
    λ i.
    record {
      phase = byte_there l q application_place 0 c.phase e refl i;
      count = byte_there l q application_place 1 c.count e refl i;
      result = byte_there l q application_place 2 c.result e refl i;
      bytes = command i;
    }

tables_back : (l rest : List ℕ) (r : Registered) → length r.list ≡ list_length → drop tables_place l ≡ encoded_tables r ++ rest → decoded_tables l ≡ r
unfolding encoded_tables decoded_tables
tables_back l rest r size e =
    let listed : bytes_at l list_place list_length ≡ r.list =
    ap (take list_length) (sym (drop-drop 1 tables_place l) ∙ ap (drop 1) e) ∙ take_at r.list rest list_length size in
    λ i. record { count = byte_there l (r.count ∷ (r.list ++ rest)) tables_place 0 r.count e refl i; list = listed i }

-- ---- the whole

pub decoded_encoded : (t : Target) (rest : List ℕ) → TargetFits t → decoded (encoded t ++ rest) ≡ t
decoded_encoded t rest fits =
    λ i.
    record {
      receiver = receiver_there i;
      body = body_there i;
      instruments =
          record {
            scope = scope_back l (encoded_recorder t.instruments.recorder ++ last) t.instruments.scope fits.scope behind_body i;
            recorder = recorder_back l last t.instruments.recorder behind_scope fits.recorder.plan fits.recorder.run i;
            application = application_back l end t.instruments.application fits.application behind_recorder i;
            tables = tables_back l rest t.instruments.tables fits.tables behind_application i;
          };
    }
  where
    l : List ℕ
    l = encoded t ++ rest

    end : List ℕ
    end = encoded_tables t.instruments.tables ++ rest

    last : List ℕ
    last = encoded_application t.instruments.application ++ end

    instruments : List ℕ
    instruments = encoded_scope t.instruments.scope ++ (encoded_recorder t.instruments.recorder ++ last)

    parts : l ≡ encoded_receiver t.receiver ++ (t.body ++ instruments)
    parts = simp append_assoc

    behind_receiver : drop body_place l ≡ t.body ++ instruments
    behind_receiver = ap (drop body_place) parts ∙ drop_at (encoded_receiver t.receiver) (t.body ++ instruments) body_place (receiver_length_lem t.receiver)

    behind_body : drop scope_place l ≡ instruments
    behind_body = sym (drop-drop most_data body_place l) ∙ ap (drop most_data) behind_receiver ∙ drop_at t.body instruments most_data fits.body

    behind_scope : drop recorder_place l ≡ encoded_recorder t.instruments.recorder ++ last
    behind_scope =
        sym (drop-drop variables_length scope_place l)
        ∙ ap (drop variables_length) behind_body
        ∙ drop_at (encoded_scope t.instruments.scope) (encoded_recorder t.instruments.recorder ++ last) variables_length (scope_length t.instruments.scope fits.scope.eight)

    behind_recorder : drop application_place l ≡ last
    behind_recorder =
        sym (drop-drop recorder_length recorder_place l)
        ∙ ap (drop recorder_length) behind_scope
        ∙ drop_at (encoded_recorder t.instruments.recorder) last recorder_length (recorder_length_lem t.instruments.recorder fits.recorder.plan.variables.eight)

    behind_application : drop tables_place l ≡ end
    behind_application =
        sym (drop-drop application_length application_place l)
        ∙ ap (drop application_length) behind_recorder
        ∙ drop_at (encoded_application t.instruments.application) end application_length (application_length_lem t.instruments.application fits.application)

    receiver_there : decoded_receiver l ≡ t.receiver
    receiver_there = ap decoded_receiver parts ∙ receiver_back t.receiver (t.body ++ instruments)

    body_there : bytes_at l body_place most_data ≡ t.body
    body_there = ap (take most_data) behind_receiver ∙ take_at t.body instruments most_data fits.body

-- ---- a state that was stored is the state that the block holds

pub encoded_length : (t : Target) → TargetFits t → length (encoded t) ≡ state_length
encoded_length t fits =
    simp length-append
    (omega (arith, receiver_length_lem t.receiver, fits.body, scope_length t.instruments.scope fits.scope.eight, recorder_length_lem t.instruments.recorder fits.recorder.plan.variables.eight, application_length_lem t.instruments.application fits.application, tables_length_lem t.instruments.tables fits.tables))

pub stored_decoded : (block : List ℕ) (t : Target) → state_length ≤ length block → TargetFits t → decoded (sets block 0 (encoded t)) ≡ t
stored_decoded block t long fits =
    ap decoded (sets-eq (encoded t) block 0 (omega (arith, encoded_length t fits)))
    ∙ decoded_encoded t (drop (0 + length (encoded t)) block) fits
