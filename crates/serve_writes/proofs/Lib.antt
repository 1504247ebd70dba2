-- What follows from the definition of a write.
pub mod WriteLaws
