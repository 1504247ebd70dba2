-- What is asked of a block, and what reset and check promise.
pub mod Promises
