pub mod ReadStatus
pub mod Measured
