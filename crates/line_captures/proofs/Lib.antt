-- The laws, lowest first.
pub mod Meeting
pub mod Passing
pub mod Wholes
pub mod Lists
