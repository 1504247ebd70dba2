-- The laws, lowest first.
pub mod Statuses
pub mod Walked
