-- Noise on the second port: a frame that gets silence leaves the board as it was.
use mathlib.Core.Path.{◌≡◌, ap, ◌∙◌}
use mathlib.Core.List.{List, [], ◌++◌, append-nil}
use Prim.Native.Nat.{ℕ}
use lib.ListN.{length}
use lib.Seq.{sets}
use Rattle.document.specs.Modbus.{modbus_answer, modbus_memory}
use Rattle.document.specs.Asides.Aside.{frames}
use Rattle.document.specs.Happenings.Happening.{aside}
use Rattle.document.proofs.Cases.{neither}
use Rattle.modbus_check_sums.specs.Flips.{Sent}
use Rattle.laws_modbus.specs.Damage.{Damaged}
use Rattle.laws_modbus.proofs.Noise.{noise_silenced}
use Rattle.laws_calls.specs.Calls.{Call, handed_out}
use Rattle.demands.specs.Board.{Board}
use Rattle.demands.specs.Run.{Step}
use Rattle.demands.proofs.Calls.{Kept, next_is}

module _ (station : ℕ) (got : List ℕ) (h next : Board) (k : Kept h) (step : Step h (aside (frames station got)) next) where
  unheard : modbus_answer station got h.memory ≡ [] → modbus_memory station got h.memory ≡ h.memory → next ≡ h
  unheard silence same =
      let none : h.modbus_answers ++ handed_out (length (modbus_answer station got h.memory)) (sets step.made.buffer 0 (modbus_answer station got h.memory)) ≡ h.modbus_answers =
      ap (λ (l : List ℕ). h.modbus_answers ++ handed_out (length l) (sets step.made.buffer 0 l)) silence ∙ append-nil h.modbus_answers in
      next_is (Call.frame station got) h next step k (λ on. neither on)
      ∙ (λ j.
      record {
        block = h.block;
        memory = same j;
        answers = append-nil h.answers j;
        commands = append-nil h.commands j;
        modbus_answers = none j;
      })

  pub noise_unheard : (sent : List ℕ) → Sent sent got → Damaged sent got → next ≡ h
  noise_unheard sent was damaged = let silent = noise_silenced station sent got was damaged h.memory in unheard silent.0 silent.1
