-- What is left in the block.
pub mod Stored
