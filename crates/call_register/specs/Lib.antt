-- What registering promises.
pub mod Promises
