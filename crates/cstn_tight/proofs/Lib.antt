-- The least deadline of a network.
pub mod LeastLemmas
pub mod GreatestLemmas
-- Evidence, and what is said.
pub mod ClosedLemmas
mod BelowLemmas
mod TightLemmas
mod AnswerLemmas
mod Saying
