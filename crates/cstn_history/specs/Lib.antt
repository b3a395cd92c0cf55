-- What has happened, and how it may go on.
pub mod Histories
pub mod Continuations
pub mod Facts
-- What is left of the network.
pub mod Rest
pub mod Handed
pub mod Examples
-- How the program's history is read.
pub mod Read
-- A further time-point.
pub mod Steps
