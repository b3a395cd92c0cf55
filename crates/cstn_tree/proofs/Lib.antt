-- Trees, and the strategies that good ones stand for.
mod TreeLemmas
mod Standing
mod Ways
pub mod Strategies
-- Lines that break.
pub mod BranchLemmas
pub mod Following
mod StartLemmas
mod BreakLemmas
mod Checks
-- The tree of a network.
mod MakeLemmas
mod MakingLemmas
mod MadeTrees
mod OneTree
mod SameTree
pub mod TreeLengths
-- Texts of trees.
mod SayingTrees
