-- The calls that a gate makes.
pub mod Calls
pub mod Promised
pub mod Bounds
