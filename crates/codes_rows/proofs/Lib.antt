-- What the arms of a match know.
pub mod Matches
