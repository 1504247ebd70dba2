-- What the calls of the gate's own program promise.
pub mod Promises
