-- The words of the demands: a gate as its firmware has it, runs of its calls, and what is said of them.
pub mod Board
pub mod Pieces
pub mod Run
pub mod Cut
pub mod AsDefined
pub mod Touches
pub mod Refused
pub mod Buffers
pub mod Fresh
pub mod Recorded
pub mod Recorder
pub mod Trace
pub mod Applying
pub mod Ports
pub mod Sums
pub mod EndToEnd
