-- What a function answers before the check sum; bytes put at the front of the output: how many they are, and the whole output behind it.
use Rattle.std.specs.Prelude.{◌≡◌, List, ◌∷◌, ℕ, length}
use Rattle.std.proofs.lemmas.List.Edits.{sets}
use Rattle.document.specs.Frames.{station_in, function_byte}
use Rattle.document.specs.Modbus.{function_data}
use Rattle.document.specs.declared.Function.{Function}

-- station and function again, and what the function tells
abbrev pub answer_to : Function → List ℕ → List ℕ → List ℕ
answer_to function frame memory = station_in frame ∷ function_byte frame ∷ function_data function frame memory

pub record Put (bytes before : List ℕ) (written : ℕ) (after : List ℕ) : Type 0 where
  pub length : written ≡ length bytes
  pub buffer : after ≡ sets before 0 bytes
