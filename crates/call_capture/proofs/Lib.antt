-- The laws, lowest first.
pub mod Shortest
pub mod Outcomes
