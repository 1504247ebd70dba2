-- What the rows hold.
pub mod Numbering
pub mod Rule
pub mod Rows
