-- What a write asks, and what it leaves.
pub mod WriteStatus
pub mod Wrote
