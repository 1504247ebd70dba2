-- What the words of a line say.
pub mod Words
pub mod Operands
