-- What a run means, and its bounds.
pub mod State
pub mod Bounds
