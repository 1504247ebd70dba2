-- What the setup says.
pub mod Statuses
