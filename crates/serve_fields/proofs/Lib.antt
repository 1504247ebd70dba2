-- The laws, lowest first.
pub mod Behind
pub mod Framing
