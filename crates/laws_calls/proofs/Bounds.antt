-- What a taken call makes of a state and a memory within their bounds is within them again: the one place where calls are told apart
-- for it. So no call hands out a state that is refused.
use mathlib.Core.Path.{◌≡◌, refl, sym, ap, subst, ◌∙◌}
use mathlib.Core.Bool.{Bool, true, false, cond}
use mathlib.Core.List.{List}
use Prim.Native.Nat.{ℕ, ◌≤◌}
use native.Mathlib.Omega.{arith}
use borrow.Author.Tests.{eqb-true, eqb-false, leb-true}
use lib.Dec.{eqb, leb}
use lib.ListN.{length, replicate, length-replicate}
use lib.Seq.{sets, length-sets}
use Rattle.document.specs.Areas.{memory_end}
use Rattle.document.specs.Bytes.{AllBytes}
use Rattle.document.specs.Numbers.{taken, state_refused}
use Rattle.document.proofs.Bytes.{each_a_byte}
use Rattle.document.proofs.Cases.{split, neither}
use Rattle.recorder_state.specs.declared.state.Recorder.{Recorder}
use Rattle.recorder_state.specs.State.{recorder_of}
use Rattle.application_state.specs.State.{Command}
use Rattle.tables_state.specs.State.{registered_list}
use Rattle.state_parts.specs.State.{Target, with_recorder, with_application, with_instruments}
use Rattle.state_parts.specs.Bounds.{sound}
use Rattle.state_parts.specs.Within.{RecorderWithin, CommandWithin, MemoryWithin, Within}
use Rattle.state_parts.proofs.ByteLaws.{all_zeros}
use Rattle.state_parts.proofs.Keeps.{recorder_started_lem, recorder_ticked, memory_ticked, command_collected, command_ended, within_sound, within_fits, within_registered, no_tables_lem}
use Rattle.state_block.specs.Places.{state_length}
use Rattle.state_block.specs.Layout.{decoded, encoded}
use Rattle.state_block.proofs.Back.{stored_decoded}
use Rattle.state_block.proofs.Lent.{lent_within}
use Rattle.state_byte.proofs.Keeps.{byte_keeps}
use Rattle.state_byte.proofs.Walks.{walked_keeps}
use Rattle.state_byte.specs.Walk.{begun}
use Rattle.call_checks.specs.Promises.{block_sound}
use Rattle.call_checks.proofs.Numbers.{tick_known, byte_known}
use Rattle.call_checks.proofs.ApplicationNumbers.{collect_known, report_known}
use Rattle.call_checks.proofs.Settled.{block_known, long_decides}
use Rattle.call_register.proofs.Registered.{taken_good, registered_within}
use Rattle.call_panel.proofs.Kept.{given_within}
use Rattle.call_modbus.proofs.Answers.{lent-right}
use Rattle.laws_modbus.proofs.Kept.{frame_keeps_length}
use Rattle.laws_calls.specs.Calls.{Call, Lent, Left, Outcome, row, number_of, command_in, done_by}
use Rattle.laws_calls.specs.Calls.Call.{byte, receive, tick, collect, report, prepare, start, frame, register, reset}
use Rattle.laws_calls.specs.Promised.{Promised}
use Rattle.laws_calls.specs.Bounds.{BytesLent, HandedOut}
use Rattle.laws_calls.proofs.Settled.{taken_leaves, call_refused}

-- ---- a state with another recorder and another application command

abbrev pub changed : Target → Recorder → Command → Target
changed t recorder command = with_instruments t (with_application (with_recorder t.instruments recorder) command)

pub changed_within : (t : Target) (m n : List ℕ) (r : Recorder) (c : Command) → Within t m → RecorderWithin r → CommandWithin c → MemoryWithin n → Within (changed t r c) n
changed_within t m n r c w recorder command memory =
    record {
      link_part = record { receiver = w.link_part.receiver; command = w.link_part.command; size = w.link_part.size; body = w.link_part.body };
      scope_part = w.scope_part;
      recorder_part = recorder;
      application_part = command;
      tables_part = w.tables_part;
      memory_part = memory;
    }

-- ---- when a call is taken

-- a test that refuses is passed
passed : (t : Bool) → cond t taken state_refused ≡ taken → t ≡ true
passed true e = refl
passed false e = let z : ⊥ = omega (arith, e) in absurd z

-- what a taken call was lent is long enough; and one that is not lent the block leaves the memory its length
pub record Lengths (c : Call) (l : Lent) : Type 0 where
  pub block : (row c).on_block ≡ true → state_length ≤ length l.block
  pub memory : (row c).on_memory ≡ true → length l.memory ≡ memory_end
  pub kept : (row c).on_block ≡ false → length (done_by c l).memory ≡ length l.memory

module _ (l : Lent) where
  long : block_sound l.block ≡ true → state_length ≤ length l.block
  long ok = (block_known l.block ok).0

  -- of a call that is lent the block, and of one that is lent it alone
  both_lent : (c : Call) → (row c).on_block ≡ true → state_length ≤ length l.block → length l.memory ≡ memory_end → Lengths c l
  both_lent c on block memory = record { block = λ lent. block; memory = λ lent. memory; kept = λ off. neither (sym off ∙ on) }

  block_lent : (c : Call) → (row c).on_block ≡ true → (row c).on_memory ≡ false → state_length ≤ length l.block → Lengths c l
  block_lent c on none block = record { block = λ lent. block; memory = λ lent. neither (sym none ∙ lent); kept = λ off. neither (sym off ∙ on) }

  pub lengths : (c : Call) → number_of c l ≡ taken → Lengths c l
  lengths (byte b) fine =
      let known = byte_known (block_sound l.block) l.memory l.buffer fine in both_lent (byte b) refl (long known.0) known.1
  lengths (receive bytes) fine =
      let known = byte_known (block_sound l.block) l.memory l.buffer fine in both_lent (receive bytes) refl (long known.0) known.1
  lengths tick fine = let known = tick_known (block_sound l.block) l.memory fine in both_lent tick refl (long known.0) known.1
  lengths collect fine = block_lent collect refl refl (long (collect_known (block_sound l.block) l.buffer fine).0)
  lengths (report result) fine =
      block_lent (report result) refl refl (long (report_known (block_sound l.block) (command_in (decoded l.block)) result fine).0)
  lengths (prepare setup) fine = block_lent (prepare setup) refl refl (long (passed (block_sound l.block) fine))
  lengths start fine = block_lent start refl refl (long (passed (block_sound l.block) fine))
  lengths (frame station bytes) fine =
      record {
        block = λ lent. neither lent;
        memory = λ lent. (lent-right station l.memory l.buffer fine).memory-length;
        kept = λ off. frame_keeps_length station bytes l.memory;
      }
  lengths (register list) fine =
      let known = taken_good l.block l.memory list fine in both_lent (register list) refl known.long known.whole
  lengths reset fine =
      block_lent reset refl refl (leb-true state_length (length l.block) (passed (leb state_length (length l.block)) fine))

-- ---- within their bounds

-- over a memory within its bounds; of a call that is not lent the memory it is any
module _ (l : Lent) (m : List ℕ) (good : MemoryWithin m) (lent : block_sound l.block ≡ true → Within (decoded l.block) m) where
  abbrev now : Target
  now = decoded l.block

  pub does_within : (c : Call) → (row c).on_block ≡ true → cond (row c).on_memory l.memory m ≡ m → AllBytes (row c).brings → number_of c l ≡ taken
      → Within (done_by c l).state (cond (row c).on_memory (done_by c l).memory m)
  does_within (byte b) on is all fine =
      let w = lent (byte_known (block_sound l.block) l.memory l.buffer fine).0 in
      byte_keeps now l.memory l.buffer (subst (Within now) (sym is) w) b all.0
  does_within (receive bs) on is all fine =
      let w = lent (byte_known (block_sound l.block) l.memory l.buffer fine).0 in
      walked_keeps bs (begun now l.memory l.buffer) all (subst (Within now) (sym is) w)
  does_within tick on is all fine =
      let w = subst (Within now) (sym is) (lent (tick_known (block_sound l.block) l.memory fine).0) in
      changed_within now l.memory _ _ _ w (recorder_ticked now.instruments.recorder l.memory w.recorder_part w.memory_part) w.application_part
      (memory_ticked (recorder_of now.instruments.recorder) l.memory w.memory_part)
  does_within collect on is all fine =
      let w = lent (collect_known (block_sound l.block) l.buffer fine).0 in
      changed_within now m m _ _ w w.recorder_part (command_collected now.instruments.application w.application_part) good
  does_within (report result) on is all fine =
      let known = report_known (block_sound l.block) (command_in now) result fine in
      let w = lent known.0 in
      changed_within now m m _ _ w w.recorder_part (command_ended now.instruments.application result w.application_part known.1) good
  does_within (prepare setup) on is all fine =
      let w = lent (passed (block_sound l.block) fine) in
      changed_within now m m _ _ w (given_within now.instruments.recorder setup all w.recorder_part) w.application_part good
  does_within start on is all fine =
      let w = lent (passed (block_sound l.block) fine) in
      changed_within now m m _ _ w (recorder_started_lem now.instruments.recorder w.recorder_part) w.application_part good
  does_within (frame station bs) on is all fine = neither on
  does_within (register list) on is all fine =
      within_registered (registered_list list) l.memory (registered_within l.memory list (taken_good l.block l.memory list fine).good all)
      (subst MemoryWithin (sym is) good)
  does_within reset on is all fine = within_registered _ m no_tables_lem good

-- ---- no state handed out is outside its bounds

-- a memory of zeros, for a call that is lent none
zeros : MemoryWithin (replicate memory_end 0)
zeros = record { size = length-replicate {A = ℕ} memory_end 0; bytes = all_zeros memory_end }

module _ (c : Call) (l : Lent) (o : Outcome) (are : BytesLent c l) (p : Promised l c o) where
  -- every block of bytes
  lent_bytes : (m : List ℕ) → MemoryWithin m → block_sound l.block ≡ true → Within (decoded l.block) m
  lent_bytes m good ok =
      let known = block_known l.block ok in lent_within l.block known.0 (each_a_byte l.block are.block) m known.1 good

  -- over this memory
  sound_over : (m : List ℕ) → MemoryWithin m → (row c).on_block ≡ true → cond (row c).on_memory l.memory m ≡ m → o.number ≡ taken
      → block_sound o.left.block ≡ true
  sound_over m good on is fine =
      let number : number_of c l ≡ taken = sym (call_refused l c o p).number ∙ fine in
      let w = does_within l m good (lent_bytes m good) c on is are.brought number in
      let long = (lengths l c number).block on in
      let next : Target = (done_by c l).state in
      let there : decoded (sets l.block 0 (encoded next)) ≡ next = stored_decoded l.block next long (within_fits next _ w) in
      ap (λ (x : Left). block_sound x.block) (taken_leaves l c o p fine)
      ∙ ap (λ (t : Bool). block_sound (cond t (sets l.block 0 (encoded next)) l.block)) on
      ∙ sym (long_decides (sets l.block 0 (encoded next)) (omega (arith, long, length-sets l.block 0 (encoded next))) true (sym (ap sound there ∙ within_sound next _ w)))

  given : (row c).on_block ≡ true → o.number ≡ taken → block_sound o.left.block ≡ true
  given on fine =
      split (row c).on_memory
      (λ lent.
      let whole = (lengths l c (sym (call_refused l c o p).number ∙ fine)).memory lent in
      sound_over l.memory (record { size = whole; bytes = are.memory }) on (rw lent refl) fine)
      (λ none. sound_over (replicate memory_end 0) zeros on (rw none refl) fine)

  pub handed_out_bounded : HandedOut c l o
  handed_out_bounded =
      record {
        sound_stays = λ ok.
            split (eqb o.number taken)
            (λ t.
            let fine = eqb-true o.number taken t in
            split (row c).on_block (λ on. given on fine)
            (λ off.
            ap (λ (x : Left). block_sound x.block) (taken_leaves l c o p fine)
            ∙ ap (λ (t : Bool). block_sound (cond t (sets l.block 0 (encoded (done_by c l).state)) l.block)) off
            ∙ ok))
            (λ f. ap (λ (x : Left). block_sound x.block) ((call_refused l c o p).unchanged (eqb-false o.number taken f)) ∙ ok);
        sound_given = given;
      }
