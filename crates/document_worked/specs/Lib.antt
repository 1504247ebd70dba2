-- The worked cases of document 01 and the rows that want a whole memory. Nothing here has to be believed: all of it is proved of crates/document.
pub mod Staples
pub mod Further
pub mod WholeRows
pub mod TableRows
pub mod ModbusRows
