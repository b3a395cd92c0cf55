-- What is known in a schedule, and tables that depend on it alone.
pub mod Knowledge
pub mod Dynamic
-- Strategies: other scenarios, later deadlines, no observations.
pub mod Observed
pub mod Kept
pub mod Plain
-- Small networks.
pub mod Branch
pub mod Late
pub mod Ticks
-- Networks with other constraints.
pub mod WellFormed
pub mod ChangeLemmas
-- Observers and links.
pub mod Same
mod ObserverLemmas
pub mod LinkLemmas
pub mod Values
-- What a builder holds, and its faults.
pub mod Lowest
pub mod DraftLemmas
mod FaultLemmas
pub mod OneFault
pub mod HandedLemmas
pub mod NoFault
