-- The target's state, what it stands for, and its bounds.
pub mod State
pub mod Looked
pub mod Bounds
pub mod Widths
pub mod Within
