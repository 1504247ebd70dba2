-- What follows from how words stand in bytes.
pub mod Worded
