-- What a command message takes.
pub mod Parts
