-- What ties a capture's entries to the answers on the same bytes.
pub mod Answered
