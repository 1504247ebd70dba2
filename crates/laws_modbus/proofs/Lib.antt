-- What a frame leaves of the memory, what noise on its wire comes to, and what the registers of an answer say.
pub mod Carried
pub mod Kept
pub mod Noise
pub mod Readable
