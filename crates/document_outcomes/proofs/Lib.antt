-- The laws, lowest first.
pub mod Firsts
pub mod Permitted
pub mod Carried
pub mod Served
pub mod Answered
pub mod Recording
pub mod Sending
