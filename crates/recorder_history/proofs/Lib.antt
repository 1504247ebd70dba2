-- The laws and theorems, lowest first.
pub mod Places
pub mod Sources
pub mod Ticks
pub mod Counts
pub mod RingHolds
pub mod Sets
pub mod History
pub mod Stop
pub mod Untriggered
pub mod Beyond
pub mod Index
pub mod Kept
pub mod Trace
pub mod Saturated
pub mod Accepted
pub mod Example
