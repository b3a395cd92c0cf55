-- One step.
mod SameLemmas
mod IdLemmas
mod StepLemmas
-- All steps, and what is said.
mod ReplayLemmas
mod Saying
