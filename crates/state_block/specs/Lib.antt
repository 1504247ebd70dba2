-- What stands where in a target's block.
pub mod Places
pub mod Layout
pub mod Changes
