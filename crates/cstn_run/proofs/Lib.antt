-- Sessions that say the same.
mod Images
-- What a guide names.
pub mod Names
pub mod Runs
pub mod Planned
-- What is accepted.
pub mod Moments
pub mod Accepting
pub mod Outcomes
-- Whole sessions.
pub mod Carrying
pub mod Ending
pub mod Plain
-- Hosts, and their sessions.
pub mod hosts
