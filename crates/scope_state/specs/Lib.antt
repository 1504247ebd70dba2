-- The scope's state, its setup and its reading.
pub mod State
pub mod Setup
pub mod Read
