-- What follows from the definitions of the receiver.
pub mod Sound
pub mod Events
pub mod Body
pub mod Owed
pub mod Reports
pub mod Idle
pub mod Runs
pub mod Demands
pub mod Places
pub mod Lengths
