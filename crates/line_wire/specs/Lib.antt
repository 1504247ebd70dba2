-- What the calls of the line promise, with the definitions of the document.
pub mod Put
pub mod Told
pub mod AnswerWritten
pub mod Outcome
