-- Runs of a network, and how they move.
pub mod Runs
pub mod Moves
pub mod Right
-- Answers while a plan is carried out.
pub mod Answers
pub mod Examples
pub mod Running
-- Guides: runs where time-points have labels.
pub mod Guides
pub mod Sound
pub mod GuideExamples
-- How the values of the program are read.
pub mod Read
pub mod GuideRead
