-- The numbers with which calls refuse, and what a block is.
pub mod Numbers
pub mod ApplicationNumbers
pub mod Settled
pub mod Lent
