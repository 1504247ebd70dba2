-- The laws, lowest first.
pub mod Happened
pub mod Resync
pub mod FreshLink
pub mod Recording
pub mod Panel
pub mod Agree
pub mod Asides
pub mod Ticks
pub mod Follows
pub mod Applying
pub mod Tables
pub mod Blocks
pub mod ServicePort
pub mod ModbusPort
pub mod Due
pub mod Example
