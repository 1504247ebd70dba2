-- The laws, lowest first.
pub mod Ahead
pub mod Over
pub mod Passed
