-- The registered tables in the target's state.
pub mod State
