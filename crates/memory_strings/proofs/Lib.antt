-- What the definitions say of the first zero, for the proofs of this crate and of those above it.
pub mod Zeros
