-- A collection and a report, refused and taken.
pub mod Calls
