-- What follows from the definitions of frames, for the proofs of this crate and of those above it.
pub mod Silenced
pub mod WrongValues
pub mod WrongAddresses
pub mod Order
