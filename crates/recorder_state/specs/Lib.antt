-- What the recorder's contracts and theorems are said with.

-- the state: what it means, and its bounds
pub mod State
pub mod Bounds
-- the calls
pub mod Calls
pub mod Preparing
