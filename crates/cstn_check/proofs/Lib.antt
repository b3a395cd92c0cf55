-- The tests, and lists that grow at the end.
pub mod Decided
pub mod Lists
-- What growth makes: a derivation that is closed at its end.
pub mod Grows
pub mod GoodLemmas
pub mod Derives
pub mod Closes
pub mod Bounded
pub mod InRange
pub mod Last
-- How far growth has come, and what its list decides.
pub mod Starts
pub mod Ends
pub mod Decides
mod Examples
-- Turns as the program takes them.
pub mod TestLemmas
pub mod Reading
pub mod TurnLemmas
pub mod Outcomes
-- Instances that are passed over.
pub mod Sequences
pub mod Growing
pub mod Skips
pub mod ChainSkips
pub mod SpentLemmas
pub mod FloorLemmas
pub mod SiftLemmas
-- How many rules are tried.
pub mod CostLemmas
pub mod TryLemmas
-- Checks and their verdicts.
pub mod VerdictLemmas
pub mod Keeping
pub mod PlanLemmas
pub mod PartLemmas
pub mod Answering
pub mod Deciding
-- Laws: lower deadlines, fewer constraints, room.
pub mod DeadlineLemmas
pub mod Idle
pub mod Fewer
pub mod Parts
pub mod Standing
pub mod RoomLemmas
-- Searches that take several checks.
pub mod Said
pub mod Marks
pub mod Needed
pub mod Leaving
pub mod Halves
