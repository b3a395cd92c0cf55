-- Limits.
pub mod Limits
-- Which words are a request.
pub mod Requests
pub mod Read
-- Files and refusals.
pub mod Files
pub mod Asked
pub mod Refusals
-- Documents, and those that were opened.
pub mod Documents
pub mod Opened
pub mod Several
