-- What a byte promises.
pub mod Heard
pub mod Promises
