-- The laws, lowest first.
pub mod TookNext
pub mod Ends
pub mod Promised
