-- What is said and written for a request, as a plan.
pub mod Plans
pub mod Lines
pub mod Answers
pub mod Verdicts
-- What each command is.
pub mod Kinds
pub mod commands
pub mod Dispatch
-- What the clauses of `run` say.
pub mod Meanings
pub mod Told
-- What is asked on the way to an answer.
pub mod Prepared
pub mod Begun
pub mod Questions
