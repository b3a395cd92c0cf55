-- The conflict set, and what is said of it.
pub mod ConflictLemmas
mod IdLines
mod Saying
