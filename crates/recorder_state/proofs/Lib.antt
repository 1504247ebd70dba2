-- The laws and theorems, lowest first.
pub mod Readings
pub mod Keeps
pub mod Meanings
pub mod Answers
