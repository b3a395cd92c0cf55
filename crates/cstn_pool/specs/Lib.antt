-- Pools, and calls on them.
pub mod Slots
pub mod Calls
