-- What is known of each row: a refused call sends nothing; one that is lent what it asks for is taken.
use mathlib.Core.Path.{◌≡◌, refl}
use mathlib.Core.Bool.{true}
use Prim.Native.Nat.{◌≤◌}
use borrow.Author.Tests.{eqb-true, leb-true, le-ltb}
use lib.Dec.{eqb, leb}
use lib.ListN.{length}
use Rattle.document.specs.Areas.{memory_end}
use Rattle.document.specs.Numbers.{answer_room, most_data, taken}
use Rattle.document.specs.Application.{is_collected}
use Rattle.document.specs.Modbus.{modbus_room}
use Rattle.document.proofs.Cases.{both}
use Rattle.state_block.specs.Places.{state_length}
use Rattle.state_block.specs.Layout.{decoded}
use Rattle.call_checks.specs.Promises.{block_sound}
use Rattle.laws_calls.specs.Calls.{Call, Lent, nothing_sent, command_in, row, number_of, sends, kept}
use Rattle.laws_calls.specs.Calls.Call.{byte, receive, tick, collect, report, prepare, start, frame, register, reset}

-- a sound block of its length, and the whole memory
pub record Fit (l : Lent) : Type 0 where
  pub sound : block_sound l.block ≡ true
  pub long : leb state_length (length l.block) ≡ true
  pub memory : eqb (length l.memory) memory_end ≡ true

pub record Known (c : Call) (l : Lent) : Type 0 where
  pub none_sent : sends c (kept c l) ≡ nothing_sent
  pub asked_taken : Fit l → (row c).room ≤ length l.buffer → (row c).due (decoded l.block) l.memory ≡ true → number_of c l ≡ taken

pub known : (c : Call) (l : Lent) → Known c l
known (byte b) l = record { none_sent = refl; asked_taken = λ fit room due. rw (fit.sound, fit.memory, le-ltb (length l.buffer) answer_room room) refl }
known (receive bytes) l = record { none_sent = refl; asked_taken = λ fit room due. rw (fit.sound, fit.memory, le-ltb (length l.buffer) answer_room room) refl }
known tick l = record { none_sent = refl; asked_taken = λ fit room due. rw (fit.sound, fit.memory) refl }
known collect l = record { none_sent = refl; asked_taken = λ fit room due. rw (fit.sound, le-ltb (length l.buffer) most_data room) refl }
known (report result) l =
    record {
      none_sent = refl;
      asked_taken = λ fit room due.
          let t = both (leb result 0xFD) (is_collected (command_in (decoded l.block))) due in
          rw (fit.sound, le-ltb 0xFD result (leb-true result 0xFD t.0), t.1) refl;
    }
known (prepare setup) l = record { none_sent = refl; asked_taken = λ fit room due. rw fit.sound refl }
known start l = record { none_sent = refl; asked_taken = λ fit room due. rw fit.sound refl }
known (frame station bytes) l = record { none_sent = refl; asked_taken = λ fit room due. rw (fit.memory, le-ltb (length l.buffer) modbus_room room, due) refl }
known (register list) l = record { none_sent = refl; asked_taken = λ fit room due. rw fit.long (eqb-true _ taken due) }
known reset l = record { none_sent = refl; asked_taken = λ fit room due. rw fit.long refl }
