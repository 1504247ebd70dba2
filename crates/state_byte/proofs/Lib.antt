-- What is held of a message, and what a byte makes of it: by its event, and what it keeps.
pub mod Held
pub mod Changed
pub mod HeldLaws
pub mod TurnLaws
pub mod Fits
pub mod Keeps
pub mod Walks
pub mod Quiet
