-- Words in which damage to a frame can be read.
pub mod Flips
