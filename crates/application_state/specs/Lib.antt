-- The application command in the target.
pub mod State
