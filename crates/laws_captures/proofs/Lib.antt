-- The laws, lowest first.
pub mod Statuses
pub mod Places
pub mod Grows
pub mod Answered
pub mod Outcomes
