-- What the calls of the reader come to.
pub mod Readings
pub mod Back
