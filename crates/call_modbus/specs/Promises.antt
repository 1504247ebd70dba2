-- What the call of the second port promises: the result, the memory and every byte of the output, refused or not.
use Rattle.std.specs.Prelude.{◌≡◌, cond, List, ℕ, eqb, length}
use Rattle.document.specs.Numbers.{taken}
use Rattle.document.specs.Modbus.{modbus_answer, modbus_memory, modbus_refusal, modbus_buffer}
use Rattle.line_wire.specs.declared.Written.{Written}

pub record ModbusDone (station : ℕ) (frame memory out : List ℕ) (r : Written) (left told : List ℕ) : Type 0 where
  pub result :
      r
      ≡ cond (eqb (modbus_refusal station memory out) taken)
      (record { refusal = taken; length = length (modbus_answer station frame memory) })
      (record { refusal = modbus_refusal station memory out; length = 0 })
  pub memory_left :
      left ≡ cond (eqb (modbus_refusal station memory out) taken) (modbus_memory station frame memory) memory
  pub buffer_told :
      told ≡ cond (eqb (modbus_refusal station memory out) taken) (modbus_buffer station frame memory out) out
