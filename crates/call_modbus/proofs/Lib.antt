-- What follows from the definitions, for the proofs of this crate and of those above it.
pub mod Sealed
pub mod Responses
pub mod Answers
