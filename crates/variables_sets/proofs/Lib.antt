-- What follows from the definitions, for the proofs of this crate.
pub mod Places
