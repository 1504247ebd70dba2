-- What follows from the definitions, for the proofs of this crate.
pub mod Fields
pub mod EachEntry
pub mod EachTable
