-- What telling an answer promises.
pub mod Put
