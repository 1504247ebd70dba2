-- What the contracts of reading a number say.
pub mod HoldsNumber
