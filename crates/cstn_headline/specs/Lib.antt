-- What a check of a network tells.
pub mod Networks
-- What is written as evidence, and what verdicts rest on.
pub mod Accepted
pub mod Verdicts
-- What the outcomes of requests tell.
pub mod Telling
pub mod Sessions
pub mod commands
pub mod Tells
-- The headline: documents, calls, and what is told of them.
pub mod Headline
pub mod Told
-- What the laws say.
pub mod EditSessions
pub mod LabelledDeadlines
