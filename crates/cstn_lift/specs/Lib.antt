-- Networks whose time-points have labels.
pub mod Labelled
pub mod Completion
pub mod WellFormed
-- Their strategies.
pub mod Strategies
pub mod Scenarios
-- The plain network that is made of one.
pub mod Lowered
pub mod Kept
-- What a builder holds, and what keeps it from being a labelled network.
pub mod Handed
pub mod Faults
-- How the program's values are read.
pub mod Read
