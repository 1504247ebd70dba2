-- What follows from the definition of a read.
pub mod ReadLaws
pub mod Strings
