-- A survey goes on where the one before it ended.
pub mod Joined
