-- A service by its operation: what it changes, and which messages start and stop the recorder.
pub mod Known
pub mod Changes
pub mod Starts
pub mod Sending
