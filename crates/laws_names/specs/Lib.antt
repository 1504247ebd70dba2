-- The words of request 2026-03's law: what the memory holds, and what a tool reads of it over the port.
pub mod Names
pub mod Steps
