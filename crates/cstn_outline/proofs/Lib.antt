-- The lines of trees.
pub mod TreeLemmas
pub mod WalkLemmas
-- Texts of trees.
pub mod PrintLemmas
mod PartLemmas
pub mod ReadLemmas
pub mod BackLemmas
mod SaidLemmas
