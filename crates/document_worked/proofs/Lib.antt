pub mod Rows
pub mod Calls
pub mod Modbus
pub mod Staples
pub mod Table
