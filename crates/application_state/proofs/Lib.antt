-- What the part stands for, and what a 0x10 makes of it.
pub mod Means
pub mod Sending
