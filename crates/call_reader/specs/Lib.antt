-- The answer reader at the C boundary: its block, and what its calls promise.
pub mod Layout
pub mod Promises
pub mod Outcome
