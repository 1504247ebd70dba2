-- What a run of bytes that is passed over leaves.
pub mod Passed
