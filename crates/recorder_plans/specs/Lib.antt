-- What a plan means, and its bounds.
pub mod State
pub mod Bounds
