-- Words in which masked stores can be read.
pub mod Bits
