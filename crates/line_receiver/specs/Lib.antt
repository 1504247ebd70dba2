-- The receiver as definitions: its bounds, what a byte does, what it then reports, and the words of demand 3.
pub mod Bounds
pub mod Step
pub mod Report
pub mod Runs
pub mod Demands
