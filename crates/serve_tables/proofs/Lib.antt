-- What is told of a table.
pub mod Listed
