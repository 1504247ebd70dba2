-- What the call of the second port promises, and its steps.
pub mod Responded
pub mod Promises
