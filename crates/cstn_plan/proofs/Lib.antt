-- Moments that are asked for.
pub mod FinishLemmas
pub mod AskedLemmas
-- The strategy of a plan.
pub mod Strategies
pub mod PlanLemmas
