-- A tick: a set that is due, each case that nothing refuses, and the whole.
pub mod Due
pub mod Within
pub mod Ticks
