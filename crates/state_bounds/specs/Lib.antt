-- What is asked of a block.
pub mod Measured
