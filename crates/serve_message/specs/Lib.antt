-- What is held of a whole message; what it finds, and what it leaves.
pub mod Held
pub mod Responds
