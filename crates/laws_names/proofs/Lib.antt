-- The laws, lowest first.
pub mod Asked
pub mod Pieces
pub mod Tables
pub mod Strings
pub mod Found
pub mod Registered
pub mod Example
