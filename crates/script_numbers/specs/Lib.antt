-- What a word says.
pub mod Numbers
