-- Registering, store by store and number by number.
pub mod Registered
