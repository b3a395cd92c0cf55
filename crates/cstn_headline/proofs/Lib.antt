-- Texts that are written, and read back.
pub mod LogTexts
pub mod Lengths
pub mod ReadBack
-- What is said of a network stands for it.
pub mod EvidenceLemmas
pub mod Standing
pub mod Trees
pub mod Checks
pub mod Edited
pub mod Drills
-- What the output of each request tells, that there is one, and no other.
pub mod Telling
pub mod Sessions
pub mod Hosting
pub mod records
pub mod SomeFault
pub mod SomeOutput
pub mod OneOutput
pub mod CasesTrees
pub mod CasesSaid
pub mod Verbs
pub mod Proved
pub mod Dispatch
-- What a call tells.
pub mod Calls
pub mod Told
-- The headline, and what it says of edit sessions and deadlines.
pub mod EditTexts
pub mod EditSessions
pub mod LabelledDeadlines
pub mod HeadlineCalls
pub mod HeadlineLemmas
-- The headline for networks.
pub mod SameStrategies
pub mod NetworkChecks
-- What is written is accepted when it is handed in again.
pub mod Replayed
pub mod LeftDocuments
pub mod LeftReplayed
pub mod LeftChecked
-- The document of a plan in sentences.
pub mod PlanDocuments
