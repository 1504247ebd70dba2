-- The number of an exception.
pub mod Exceptions
