-- What a byte and a tick store is the encoding of the next state: the parts they leave alone are there already.
use mathlib.Core.Path.{◌≡◌, refl, sym, ap, ◌∙◌}
use mathlib.Core.List.{List, [], ◌∷◌, ◌++◌}
use Prim.Native.Nat.{ℕ, ◌+◌, ◌-◌, ◌<◌, ◌≤◌}
use native.Mathlib.Omega.{arith}
use lib.ListN.{length, get_or, set, drop, length-set, length-append, length-drop}
use lib.Seq.{sets, length-sets, drop_at}
use Rattle.document.specs.Numbers.{most_data}
use Rattle.document.specs.Areas.{bytes_at}
use Rattle.line_receiver.specs.declared.Receiver.{Receiver}
use Rattle.scope_state.specs.declared.Scope.{Scope}
use Rattle.recorder_runs.specs.declared.run.Run.{Run}
use Rattle.recorder_state.specs.declared.state.Recorder.{Recorder}
use Rattle.application_state.specs.State.{Command, sent_command, ended_command}
use Rattle.state_parts.specs.State.{Instruments, with_scope, with_recorder, with_application}
use Rattle.memory_ranges.proofs.Stored.{bytes_behind}
use Rattle.state_block.proofs.Ranges.{sets_part}
use Rattle.state_block.specs.Layout.{decoded_receiver, decoded_body, decoded_scope, decoded_recorder, decoded_application, decoded_instruments, encoded_receiver, encoded_scope, encoded_run, encoded_recorder, encoded_application, encoded_instruments, encoded}
use Rattle.state_block.specs.Places.{receiver_length, variables_length, plan_length, recorder_length, application_length, tables_length, instruments_length, body_place, scope_place, recorder_place, run_place, application_place, command_place, tables_place, state_length}
use Rattle.bytes_fields.proofs.Ranges.{bytes_length, bytes_append, sets_same, sets_set, sets_apart}
use Rattle.state_block.proofs.Parts.{receiver_length_lem, sets_two}
use Rattle.state_block.proofs.Kept.{receiver_kept, scope_kept_lem, recorder_kept_lem, same_recorder_kept, application_kept, tables_kept_lem, behind_recorder_kept, behind-scope-kept, instruments_kept_lem}

module _ (block : List ℕ) (long : state_length ≤ length block) where
  parts_stored : (r : Receiver) (body rest : List ℕ) → length body ≡ most_data
      → sets block 0 (encoded_receiver r ++ (body ++ rest)) ≡ sets (sets (sets block 0 (encoded_receiver r)) body_place body) scope_place rest
  parts_stored r body rest e =
      sets_two block (encoded_receiver r) (body ++ rest) 0 receiver_length body_place (receiver_length_lem r) refl
      ∙ sets_two (sets block 0 (encoded_receiver r)) body rest body_place most_data scope_place e refl

  -- a range behind the receiver, stored over it
  behind_same : (r : Receiver) (at n : ℕ) → receiver_length ≤ at → at + n ≤ state_length → sets (sets block 0 (encoded_receiver r)) at (bytes_at block at n) ≡ sets block 0 (encoded_receiver r)
  behind_same r at n h f =
      ap (sets (sets block 0 (encoded_receiver r)) at) (sym (bytes_behind (encoded_receiver r) block 0 at n (omega (arith, receiver_length_lem r))))
      ∙ sets_same n (sets block 0 (encoded_receiver r)) at (omega (arith, length-sets block 0 (encoded_receiver r)))

  pub whole_stored : (r : Receiver) (i : Instruments)
      → sets (sets block 0 (encoded_receiver r)) scope_place (encoded_instruments i) ≡ sets block 0 (encoded (record { receiver = r; body = decoded_body block; instruments = i }))
  whole_stored r i =
      ap (λ (l : List ℕ). sets l scope_place (encoded_instruments i)) (sym (behind_same r body_place most_data (omega arith) (omega arith)))
      ∙ sym (parts_stored r (decoded_body block) (encoded_instruments i) (bytes_length block body_place most_data (omega arith)))

  -- the receiver, stored last
  pub answered_stored : (r : Receiver) (i : Instruments)
      → sets (sets block scope_place (encoded_instruments i)) 0 (encoded_receiver r) ≡ sets block 0 (encoded (record { receiver = r; body = decoded_body block; instruments = i }))
  answered_stored r i =
      sets_apart (encoded_instruments i) (encoded_receiver r) block scope_place 0 (omega (arith, receiver_length_lem r)) ∙ whole_stored r i

  module _ (small : (i : ℕ) → get_or block i 0 < 256) where
    pub quiet_stored : (r : Receiver)
        → sets block 0 (encoded_receiver r) ≡ sets block 0 (encoded (record { receiver = r; body = decoded_body block; instruments = decoded_instruments block }))
    quiet_stored r =
        sym (behind_same r scope_place instruments_length (omega arith) (omega arith))
        ∙ ap (sets (sets block 0 (encoded_receiver r)) scope_place) (sym (instruments_kept_lem block small long))
        ∙ whole_stored r (decoded_instruments block)

    -- data that are kept
    pub data_stored : (r : Receiver) (at : ℕ) (bs : List ℕ) → at + length bs ≤ most_data
        → sets (sets block 0 (encoded_receiver r)) (body_place + at) bs ≡ sets block 0 (encoded (record { receiver = r; body = sets (decoded_body block) at bs; instruments = decoded_instruments block }))
    data_stored r at bs h =
        sym
        (parts_stored r (sets (decoded_body block) at bs) (encoded_instruments (decoded_instruments block)) (length-sets (decoded_body block) at bs ∙ bytes_length block body_place most_data (omega arith))
        ∙ ap (λ (l : List ℕ). sets l scope_place (encoded_instruments (decoded_instruments block))) body_stored
        ∙ ap (sets kept scope_place) (instruments_kept_lem block small long ∙ sym instruments_there)
        ∙ sets_same instruments_length kept scope_place (omega (arith, kept_length)))
      where
        headed : List ℕ
        headed = sets block 0 (encoded_receiver r)

        kept : List ℕ
        kept = sets headed (body_place + at) bs

        headed_length : length headed ≡ length block
        headed_length = length-sets block 0 (encoded_receiver r)

        kept_length : length kept ≡ length block
        kept_length = length-sets headed (body_place + at) bs ∙ headed_length

        body_stored : sets headed body_place (sets (decoded_body block) at bs) ≡ kept
        body_stored =
            ap (λ (l : List ℕ). sets headed body_place (sets l at bs)) (sym (bytes_behind (encoded_receiver r) block 0 body_place most_data (omega (arith, receiver_length_lem r))))
            ∙ sets_part bs headed body_place most_data at h (omega (arith, headed_length))

        instruments_there : bytes_at kept scope_place instruments_length ≡ bytes_at block scope_place instruments_length
        instruments_there =
            bytes_behind bs headed (body_place + at) scope_place instruments_length (omega (arith, h))
            ∙ bytes_behind (encoded_receiver r) block 0 scope_place instruments_length (omega (arith, receiver_length_lem r))

    pub keep_stored : (r : Receiver) (at b : ℕ) → at < most_data
        → set (sets block 0 (encoded_receiver r)) (body_place + at) b ≡ sets block 0 (encoded (record { receiver = r; body = set (decoded_body block) at b; instruments = decoded_instruments block }))
    keep_stored r at b h = data_stored r at (b ∷ []) (omega (arith, h))

    -- ---- one of the instruments, or a part of it: the others are there

    same_scope : sets block scope_place (encoded_scope (decoded_scope block)) ≡ block
    same_scope = ap (sets block scope_place) (scope_kept_lem block small long) ∙ sets_same variables_length block scope_place (omega arith)

    scope_width : length (encoded_scope (decoded_scope block)) ≡ variables_length
    scope_width = ap length (scope_kept_lem block small long) ∙ bytes_length block scope_place variables_length (omega arith)

    pub same_instruments : sets block scope_place (encoded_instruments (decoded_instruments block)) ≡ block
    same_instruments =
        ap (sets block scope_place) (instruments_kept_lem block small long) ∙ sets_same instruments_length block scope_place (omega arith)

    -- a part, stored, and what stands behind it stored over what is there
    behind_there : (l xs ys : List ℕ) (at n next m : ℕ) → length xs ≡ n → at + n ≡ next → next + m ≤ length l → ys ≡ bytes_at l next m
        → sets l at (xs ++ ys) ≡ sets l at xs
    behind_there l xs ys at n next m width place fits same =
        sets_two l xs ys at n next width place
        ∙ ap (sets (sets l at xs) next) (same ∙ sym (bytes_behind xs l at next m (omega (arith, width, place))))
        ∙ sets_same m (sets l at xs) next (omega (arith, length-sets l at xs))

    pub scope_stored : (s : Scope) → length (encoded_scope s) ≡ variables_length
        → sets block scope_place (encoded_scope s) ≡ sets block scope_place (encoded_instruments (with_scope (decoded_instruments block) s))
    scope_stored s width =
        sym (behind_there block (encoded_scope s) _ scope_place variables_length recorder_place (recorder_length + (application_length + tables_length)) width refl (omega arith) (behind-scope-kept block small long))

    -- behind the scope that is there
    past_scope : (rest : List ℕ) → sets block scope_place (encoded_scope (decoded_scope block) ++ rest) ≡ sets block recorder_place rest
    past_scope rest =
        sets_two block (encoded_scope (decoded_scope block)) rest scope_place variables_length recorder_place scope_width refl
        ∙ ap (λ (l : List ℕ). sets l recorder_place rest) same_scope

    pub recorder_stored : (r : Recorder) → length (encoded_recorder r) ≡ recorder_length
        → sets block recorder_place (encoded_recorder r)
        ≡ sets block scope_place (encoded_instruments (with_recorder (decoded_instruments block) r))
    recorder_stored r width =
        sym
        (past_scope _
        ∙ behind_there block (encoded_recorder r) _ recorder_place recorder_length application_place (application_length + tables_length) width refl (omega arith) (behind_recorder_kept block small long))

    same_recorder : sets block recorder_place (encoded_recorder (decoded_recorder block)) ≡ block
    same_recorder = ap (sets block recorder_place) (same_recorder_kept block small long) ∙ sets_same recorder_length block recorder_place (omega arith)

    recorder_width : length (encoded_recorder (decoded_recorder block)) ≡ recorder_length
    recorder_width = ap length (same_recorder_kept block small long) ∙ bytes_length block recorder_place recorder_length (omega arith)

    -- behind the scope and the recorder that are there
    past_recorder : (rest : List ℕ)
        → sets block scope_place (encoded_scope (decoded_scope block) ++ (encoded_recorder (decoded_recorder block) ++ rest)) ≡ sets block application_place rest
    past_recorder rest =
        past_scope (encoded_recorder (decoded_recorder block) ++ rest)
        ∙ sets_two block (encoded_recorder (decoded_recorder block)) rest recorder_place recorder_length application_place recorder_width refl
        ∙ ap (λ (l : List ℕ). sets l application_place rest) same_recorder

    pub application_stored : (c : Command) → length (encoded_application c) ≡ application_length
        → sets block application_place (encoded_application c)
        ≡ sets block scope_place (encoded_instruments (with_application (decoded_instruments block) c))
    application_stored c width =
        sym
        (past_recorder _
        ∙ behind_there block (encoded_application c) _ application_place application_length tables_place tables_length width refl (omega arith) (tables_kept_lem block small long))

    -- the recorder in the block, with another run
    abbrev with_run : Run → Recorder
    with_run run = record { ready = (decoded_recorder block).ready; plan = (decoded_recorder block).plan; run = run }

    run_in_recorder : (run : Run) → sets block run_place (encoded_run run) ≡ sets block recorder_place (encoded_recorder (with_run run))
    run_in_recorder run =
        sym
        (ap (sets block recorder_place) (recorder_kept_lem block small long run)
        ∙ sets_two block (bytes_at block recorder_place (1 + plan_length)) (encoded_run run) recorder_place (1 + plan_length) run_place (bytes_length block recorder_place (1 + plan_length) (omega arith)) refl
        ∙ ap (λ (l : List ℕ). sets l run_place (encoded_run run)) (sets_same (1 + plan_length) block recorder_place (omega arith)))

    run_width : (run : Run) → length (encoded_recorder (with_run run)) ≡ recorder_length
    unfolding encoded_run
    run_width run =
        ap length (recorder_kept_lem block small long run)
        ∙ length-append (bytes_at block recorder_place (1 + plan_length)) (encoded_run run)
        ∙ omega (arith, bytes_length block recorder_place (1 + plan_length) (omega arith))

    pub run_stored : (run : Run)
        → sets block run_place (encoded_run run)
        ≡ sets block scope_place (encoded_instruments (with_recorder (decoded_instruments block) (with_run run)))
    run_stored run = run_in_recorder run ∙ recorder_stored (with_run run) (run_width run)

    -- what is set up, behind the link as it is there
    pub instruments_stored : (i : Instruments)
        → sets block scope_place (encoded_instruments i)
        ≡ sets block 0 (encoded (record { receiver = decoded_receiver block; body = decoded_body block; instruments = i }))
    instruments_stored i =
        ap (λ (l : List ℕ). sets l scope_place (encoded_instruments i))
        (sym (ap (sets block 0) (receiver_kept block small long) ∙ sets_same receiver_length block 0 (omega arith)))
        ∙ whole_stored (decoded_receiver block) i

    -- ---- the application command, byte by byte

    application_width : length (encoded_application (decoded_application block)) ≡ application_length
    application_width = ap length (application_kept block small long) ∙ bytes_length block application_place application_length (omega arith)

    -- a byte of its head
    pub head_stored : (k b : ℕ) (c : Command) → k < 3 → set (encoded_application (decoded_application block)) k b ≡ encoded_application c
        → set block (application_place + k) b
        ≡ sets block scope_place (encoded_instruments (with_application (decoded_instruments block) c))
    head_stored k b c h same =
        sym (sets_set application_length block application_place k b (omega arith) (omega arith))
        ∙ ap (λ (l : List ℕ). sets block application_place (set l k b)) (sym (application_kept block small long))
        ∙ ap (sets block application_place) same
        ∙ application_stored c (ap length (sym same) ∙ length-set (encoded_application (decoded_application block)) k b ∙ application_width)

    -- a new one: its head, and its bytes in front of those that are there
    pub command_stored : (body : List ℕ) → length body ≤ most_data
        → sets block application_place (1 ∷ length body ∷ 0 ∷ body)
        ≡ sets block scope_place (encoded_instruments (with_application (decoded_instruments block) (sent_command body (decoded_application block))))
    unfolding encoded_application decoded_application
    command_stored body few =
        let n = length body in
        sym (behind_there block (1 ∷ n ∷ 0 ∷ body) (drop n (bytes_at block command_place most_data)) application_place (3 + n) (command_place + n) (most_data - n) (omega arith) (omega arith) (omega arith) (bytes_left n few))
        ∙ application_stored (sent_command body (decoded_application block))
        (simp (length-append, length-drop) (omega (arith, few, bytes_length block command_place most_data (omega arith))))
      where
        bytes_left : (n : ℕ) → n ≤ most_data → drop n (bytes_at block command_place most_data) ≡ bytes_at block (command_place + n) (most_data - n)
        bytes_left n small-enough =
            let whole : most_data ≡ n + (most_data - n) = omega (arith, small-enough) in
            ap (λ (k : ℕ). drop n (bytes_at block command_place k)) whole
            ∙ ap (drop n) (sym (bytes_append block command_place n (most_data - n)))
            ∙ drop_at (bytes_at block command_place n) (bytes_at block (command_place + n) (most_data - n)) n (bytes_length block command_place n (omega arith))

    -- a result: its head, and the bytes that are there
    pub ended_stored : (result : ℕ)
        → sets block application_place (3 ∷ 0 ∷ result ∷ [])
        ≡ sets block scope_place (encoded_instruments (with_application (decoded_instruments block) (ended_command result (decoded_application block))))
    unfolding encoded_application decoded_application
    ended_stored result =
        sym (behind_there block (3 ∷ 0 ∷ result ∷ []) (bytes_at block command_place most_data) application_place 3 command_place most_data refl refl (omega arith) refl)
        ∙ application_stored (ended_command result (decoded_application block)) (omega (arith, bytes_length block command_place most_data (omega arith)))
