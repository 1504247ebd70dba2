-- What a tick leaves.
pub mod Tick
