-- What follows from the definitions, for the proofs of this crate and of `state_given`.
pub mod Turns
pub mod Padded
pub mod Places
pub mod Joined
