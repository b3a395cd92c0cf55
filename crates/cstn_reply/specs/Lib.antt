-- What is said, how long it is, and how a request ends.
pub mod Texts
pub mod Room
pub mod Statuses
pub mod Read
-- What is written, also after a fault.
pub mod Written
-- Sessions over lines.
pub mod Sessions
pub mod Reached
