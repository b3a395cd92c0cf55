-- The rules, and lists of bounds by them.
pub mod Rules
pub mod Tests
pub mod Derivations
pub mod Closed
-- How the program's values are read.
pub mod Read
