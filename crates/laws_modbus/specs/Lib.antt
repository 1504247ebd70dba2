-- The words in which noise on the second port's wire is said.
pub mod Damage
