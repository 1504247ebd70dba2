pub mod Settled
pub mod Known
pub mod Sends
pub mod Allowed
pub mod Bounds
