-- Where lines come from, and where output goes.
pub mod Input
pub mod Output
