-- How a session starts, and what each edit leaves of it.
pub mod StartLemmas
pub mod AddLemmas
pub mod CutLemmas
-- Verdicts and refutations.
pub mod VerdictLemmas
pub mod RefutationLemmas
-- Laws of sessions.
pub mod EditLemmas
pub mod FreshLemmas
pub mod SessionLaws
-- Answers to lines.
pub mod Edits
pub mod Wanting
