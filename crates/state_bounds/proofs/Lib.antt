-- The bounds, test by test.
pub mod Looked
pub mod Within
