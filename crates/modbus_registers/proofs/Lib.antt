-- What follows from the definition of registers, for the proofs of this crate and of those above it.
pub mod Turns
