-- The laws, lowest first.
pub mod Statuses
pub mod Changing
pub mod InARow
