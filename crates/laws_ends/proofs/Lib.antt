pub mod ByNumber
pub mod Refused
pub mod Outcomes
pub mod Readings
pub mod Exchange
