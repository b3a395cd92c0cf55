-- The limits.
pub mod Limits
-- Refutations, and their texts.
pub mod Refutations
pub mod Steps
pub mod Texts
-- What a text can say, and how it may be written.
pub mod Written
pub mod Orders
pub mod Read
