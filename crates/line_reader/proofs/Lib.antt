-- What follows from the definitions of the other end.
pub mod Bounds
pub mod Reading
pub mod RoundTrip
pub mod Heads
pub mod Idle
