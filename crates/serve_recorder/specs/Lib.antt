-- What a command leaves.
pub mod Operates
