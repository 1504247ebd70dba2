-- Bytes of a block by their places, the numbers that they are, and definitions.
pub mod Ranges
pub mod Numbers
pub mod Definitions
