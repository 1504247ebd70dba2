-- When a command message can be formed, and what is left of one.
pub mod Commands
pub mod Forms
