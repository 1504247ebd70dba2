-- What goes out with a taken call: the command that is handed out, and the second port's answer, once and whole.
use mathlib.Core.Path.{◌≡◌, refl, ap}
use mathlib.Core.List.{List, [], ◌∷◌}
use Prim.Native.Nat.{ℕ, suc, ◌≤◌}
use native.Mathlib.Omega.{arith}
use borrow.Author.Tests.{ne_eqb}
use lib.ListN.{length}
use lib.Seq.{sets}
use Rattle.document.specs.Application.{new_command}
use Rattle.document.specs.Frames.{is_silenced}
use Rattle.document.specs.Modbus.{function_in, exception_to, answer_to, modbus_answer, modbus_room}
use Rattle.document.proofs.Cases.{split}
use Rattle.line_wire.proofs.Left.{sets_front}
use Rattle.state_block.specs.Layout.{decoded}
use Rattle.call_modbus.proofs.Sealed.{sealed_length}
use Rattle.call_modbus.proofs.Responses.{answer_short}
use Rattle.laws_happenings.specs.Asides.{if_any, waiting_in}
use Rattle.laws_calls.specs.Calls.{Call, Lent, handed_out, command_in, leaves, sends}

-- what fits stands at the front of the buffer
front_handed : (new buffer : List ℕ) → length new ≤ length buffer → handed_out (length new) (sets buffer 0 new) ≡ if_any new
front_handed [] buffer fits = refl
front_handed (code ∷ arguments) buffer fits =
    rw (ne_eqb (suc (length arguments)) 0 (λ e. omega (arith, e))) (ap (λ (l : List ℕ). l ∷ []) (sets_front (code ∷ arguments) buffer fits))

-- an answer of the second port has room in the 256 bytes that its call asks for
pub modbus_fits : (station : ℕ) (bytes memory : List ℕ) → length (modbus_answer station bytes memory) ≤ modbus_room
unfolding modbus_answer
modbus_fits station bytes memory =
    let answer : List ℕ = station ∷ answer_to (exception_to (function_in bytes) bytes memory) bytes memory in
    split (is_silenced station bytes) (λ quiet. rw quiet (omega arith))
    (λ loud. rw loud (omega (arith, answer_short bytes memory, sealed_length answer)))

module _ (l : Lent) where
  pub collect_sends : length (new_command (command_in (decoded l.block))) ≤ length l.buffer
      → sends Call.collect (leaves Call.collect l) ≡ record { answers = []; commands = waiting_in (command_in (decoded l.block)); modbus_answers = [] }
  collect_sends fits =
      ap (λ (new : List (List ℕ)). record { answers = []; commands = new; modbus_answers = [] })
      (front_handed (new_command (command_in (decoded l.block))) l.buffer fits)

  pub frame_sends : (station : ℕ) (bytes : List ℕ) → modbus_room ≤ length l.buffer
      → sends (Call.frame station bytes) (leaves (Call.frame station bytes) l)
      ≡ record { answers = []; commands = []; modbus_answers = if_any (modbus_answer station bytes l.memory) }
  frame_sends station bytes room =
      ap (λ (new : List (List ℕ)). record { answers = []; commands = []; modbus_answers = new })
      (front_handed (modbus_answer station bytes l.memory) l.buffer (omega (arith, modbus_fits station bytes l.memory, room)))
