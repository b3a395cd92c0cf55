-- The limits.
pub mod Limits
-- When a tree is good.
pub mod Good
pub mod Breaks
pub mod Walks
pub mod Examples
-- What the program keeps of them.
pub mod Starts
pub mod Branches
-- The tree of a network.
pub mod Made
pub mod Making
-- What is said.
pub mod Checked
pub mod Unfolded
