-- What is answered in the states of a session.
pub mod Verdicts
pub mod Questions
pub mod FurtherQuestions
pub mod Refusals
-- Doing what is named.
pub mod GoingOn
-- What a session shows that is over.
pub mod Carried
pub mod Ended
-- The journal, and larger caps.
pub mod Recounted
pub mod Journals
pub mod Alike
pub mod FurtherAlike
pub mod Capped
-- The order of lines, and how a session comes to an end.
pub mod Ordered
pub mod Ending
-- What edits make of the plan.
mod StepsTold
pub mod EditLines
mod Forgave
-- Sessions with marks.
pub mod Counting
pub mod Paired
