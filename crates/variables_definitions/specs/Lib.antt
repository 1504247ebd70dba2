-- What a data part holds, and which of a setup's refusals comes first.
pub mod Parts
pub mod Wrong
