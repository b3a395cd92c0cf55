-- The limit.
pub mod Limits
-- How a labelled plan goes on, by cases.
pub mod Going
pub mod Cases
-- What the program keeps, and what is said.
pub mod Writing
pub mod Told
