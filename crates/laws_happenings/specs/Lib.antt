-- The words of demand 3, of the recorder's history, of application commands and of the two ports, over what happens to a gate; and an example.
pub mod Along
pub mod Asides
pub mod Bytes
pub mod Due
pub mod Resync
pub mod Recording
pub mod Applying
pub mod Ports
pub mod Example
