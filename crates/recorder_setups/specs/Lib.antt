-- What a setup is answered with, and what it leaves.
pub mod Setup
