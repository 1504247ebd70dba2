-- Blocks and states: each is the other's way back.
pub mod Ranges
pub mod Parts
pub mod Definitions
pub mod Kept
pub mod Back
pub mod Stored
pub mod Lent
