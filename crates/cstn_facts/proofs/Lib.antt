-- One value: true or false, a whole number, an optional value.
pub mod Booleans
pub mod Integers
pub mod Options
-- Lists: what stands at a place, what is in a list, and the items that pass a test.
pub mod Places
pub mod Members
pub mod Filters
pub mod Pairs
-- The numbers of a range.
pub mod Ranges
