-- What follows from the definitions, for the proofs of this crate and of those above it.
pub mod Reach
pub mod Widths
pub mod Copies
pub mod Stored
