-- What the struct of variables means.
pub mod State
