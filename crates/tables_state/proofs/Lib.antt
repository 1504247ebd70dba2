-- What a technician is told of a list.
pub mod Told
