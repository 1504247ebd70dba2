-- The laws, lowest first.
pub mod Told
pub mod Calls
pub mod Kept
