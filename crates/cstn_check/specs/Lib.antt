-- How a list of bounds is grown, and by which tests.
pub mod Relations
pub mod Growth
pub mod Examples
-- What its turns make of a list, and how many rules they try.
pub mod Kept
pub mod Turns
pub mod Steps
pub mod Spent
pub mod Waits
pub mod Floors
pub mod Tries
-- Checks, and what their verdicts say.
pub mod Checks
pub mod Verdicts
pub mod Decisions
-- What a list tells beyond its verdict.
pub mod Givers
pub mod Deadlines
pub mod Room
-- What a no needs, and searches that take several checks.
pub mod Needs
pub mod Search
