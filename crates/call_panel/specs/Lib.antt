-- What the panel's calls promise.
pub mod Promises
