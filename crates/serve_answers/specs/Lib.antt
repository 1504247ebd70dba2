-- What stands in the answers that are told.
pub mod Words
