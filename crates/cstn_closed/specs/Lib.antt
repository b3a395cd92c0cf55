-- Lists of bounds: places in them, and which bounds suffice.
pub mod Places
pub mod Marking
pub mod Minimal
pub mod Closed
-- Why a list isn't closed.
pub mod Faults
pub mod Instances
-- Texts of lists.
pub mod Texts
pub mod Orders
pub mod Written
pub mod Read
-- What a check answers, and what a text says of its network.
pub mod Answers
pub mod Certificates
