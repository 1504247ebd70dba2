-- What a search of the table finds, and its rows as pairs.
pub mod Search
pub mod Rows
