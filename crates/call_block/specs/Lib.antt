-- How far a block has been taken, and what it promises.
pub mod Going
pub mod Promises
