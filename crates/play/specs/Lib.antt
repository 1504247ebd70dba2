-- What an order leaves as it is.
pub mod Untouched
