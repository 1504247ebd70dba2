-- What a frame that is not silenced comes to: its answer but for the check sum, and the memory behind it.
use Rattle.std.specs.Prelude.{◌≡◌, cond, List, ◌∷◌, ℕ, eqb}
use Rattle.document.specs.Numbers.{done}
use Rattle.document.specs.Frames.{station_in}
use Rattle.document.specs.Modbus.{function_in, exception_to, carried_out, answer_to}
use Rattle.modbus_functions.specs.Put.{Put}

pub record Responded (frame memory out : List ℕ) (written : ℕ) (left told : List ℕ) : Type 0 where
  pub answer : Put (station_in frame ∷ answer_to (exception_to (function_in frame) frame memory) frame memory) out written told
  pub memory_left :
      left ≡ cond (eqb (exception_to (function_in frame) frame memory) done) (carried_out (function_in frame) frame memory) memory
