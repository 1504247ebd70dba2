-- What the capture call promises.
pub mod Promises
