-- What a service finds, and what it leaves.
pub mod Serves
