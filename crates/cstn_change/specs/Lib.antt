-- Changes of a network, why they are refused, and what is said of them.
pub mod Changes
pub mod ChangeLines
-- How the values of the program are read.
pub mod Read
