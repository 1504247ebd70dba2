-- What follows from the definitions: the table is its rule, its columns say what the rule put into them, a refusal has a number of its
-- own, and so has a status.
pub mod Entries
pub mod Commands
pub mod Numbering
pub mod Refusals
pub mod Outcomes
