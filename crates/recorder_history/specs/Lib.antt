-- The words of the theorems about a recorder.
pub mod History
pub mod Trace
