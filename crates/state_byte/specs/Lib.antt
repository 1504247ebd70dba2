-- What a message makes of what is set up, and what a byte makes of the target's state.
pub mod After
pub mod AnsweredHeld
pub mod Turn
pub mod Walk
pub mod Quiet
