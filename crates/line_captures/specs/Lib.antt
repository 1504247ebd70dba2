-- What the engine finds in a capture, a place at a time.
pub mod Tokens
pub mod Entries
pub mod Messages
pub mod Walk
