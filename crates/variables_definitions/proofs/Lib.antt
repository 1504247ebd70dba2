-- What follows from the definitions, for the proofs of this crate and of those above it.
pub mod Read
pub mod First
