-- What the definitions of a part come to.
pub mod Survey
