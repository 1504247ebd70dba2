-- A capture's messages as definitions, and their rows.
pub mod Captures
pub mod CaptureRows
