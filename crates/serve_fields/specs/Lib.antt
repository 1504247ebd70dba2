-- What the fields of a read or a write say.
pub mod Found
pub mod Framed
