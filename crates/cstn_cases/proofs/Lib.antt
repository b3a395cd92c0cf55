-- The tree by cases is the labelled strategy of least moments.
pub mod Leasts
pub mod Right
pub mod Branches
pub mod Exists
-- What the program keeps.
mod CaseLemmas
mod NextLemmas
pub mod Writes
mod Written
-- What is said.
mod Sayings
