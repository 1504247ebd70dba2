-- What a tick promises, and what its parts do.
pub mod Promises
pub mod Parts
