-- Lists, and labels as the program has them.
pub mod ListLemmas
pub mod LabelLemmas
-- Completed labels.
pub mod Rows
pub mod CompletionLemmas
pub mod FullLemmas
-- Which time-points are executed.
pub mod Executed
pub mod Dichotomy
-- A labelled network and its lowered one have the same moments.
pub mod ToLabelled
pub mod ToPlain
pub mod LoweredLemmas
pub mod Equivalent
-- What the lowered network is made of.
pub mod WellFormed
pub mod Built
pub mod Taken
pub mod Kept
pub mod Unlabelled
-- Faults of labels.
pub mod FaultLemmas
pub mod OneFault
pub mod NoFault
-- Laws of labelled strategies.
pub mod Twins
pub mod Observed
