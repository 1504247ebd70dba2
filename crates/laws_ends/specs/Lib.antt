-- The words of both ends of the line.
pub mod Refused
pub mod Readings
pub mod Exchange
