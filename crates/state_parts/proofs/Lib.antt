-- The whole state, part by part: its bounds, its widths, and what keeps them.
pub mod Parts
pub mod ByteLaws
pub mod Fits
pub mod Keeps
pub mod Apart
