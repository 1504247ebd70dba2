-- The answer reader a byte at a time, whole and by its head.
pub mod Reader
pub mod Head
