-- What is held of a message.
pub mod Refusing
