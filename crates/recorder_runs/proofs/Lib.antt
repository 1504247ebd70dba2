-- The laws of a run, lowest first.
pub mod Flags
pub mod Granted
pub mod Watches
pub mod Kept
pub mod Keeps
