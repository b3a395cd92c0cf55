-- The ids of constraints.
pub mod Ids
