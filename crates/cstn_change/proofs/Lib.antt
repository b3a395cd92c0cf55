-- Ids, and why changes are refused.
pub mod IdLemmas
pub mod Values
pub mod RefusalLemmas
-- Labelled networks as edited.
pub mod TimePointLabels
pub mod PlanLemmas
