-- Lists and what they cover.
mod ListLemmas
mod CoverLemmas
mod RuleLemmas
-- The bounds that are kept.
mod FreshLemmas
mod KeepLemmas
-- Faults, found by walks.
mod MarkingLemmas
mod WalkLemmas
pub mod FaultLemmas
mod InstanceLemmas
-- Texts, printed and read.
mod BackLemmas
mod PrintLemmas
mod SaidLemmas
mod Certifying
