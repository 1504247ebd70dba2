-- What reading a number promises: the number that the bytes hold, and the bound of its width.
use Rattle.std.specs.Prelude.{◌≡◌, List, ℕ, ◌*◌, ◌^◌, ◌<◌}
use Rattle.document.specs.Values.{number}

pub record HoldsNumber (bytes : List ℕ) (size x : ℕ) : Type 0 where
  pub value : x ≡ number bytes
  pub fits : x < 2 ^ (8 * size)
