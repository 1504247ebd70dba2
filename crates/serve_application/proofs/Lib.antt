-- What the two commands say and leave.
pub mod Sending
