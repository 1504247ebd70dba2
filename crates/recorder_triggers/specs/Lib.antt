-- What the trigger's struct means, and what is known where it is looked at.
pub mod State
