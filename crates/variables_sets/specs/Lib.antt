-- What may be copied into a place of the ring, and what is there then.
pub mod Recorded
