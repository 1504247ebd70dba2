-- What follows from the definitions of the line.
-- the line, read
pub mod Pairing
pub mod Machine
pub mod Frames
pub mod Grows
pub mod Resync
pub mod RightSum
pub mod RoundTrip
pub mod Ends
pub mod Half
-- the line, written
pub mod Stuffed
pub mod Writing
pub mod Statuses
pub mod Left
