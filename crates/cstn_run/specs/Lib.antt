-- What answers tell of moments, in each kind of session.
pub mod Least
-- Guided sessions: what is answered to live lines, and what the answers tell.
pub mod Sessions
pub mod Meanings
-- Hosts, and their sessions.
pub mod hosted
