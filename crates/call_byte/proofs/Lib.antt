-- What the block holds behind a byte.
pub mod Stores
pub mod Framed
pub mod Answered
pub mod Turns
