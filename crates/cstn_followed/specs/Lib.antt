-- The states of sessions, and what is answered in them.
pub mod Sessions
pub mod Answers
pub mod FurtherAnswers
pub mod Plans
-- What a session shows that is over, and how it comes to an end.
pub mod Finished
pub mod End
-- Its journal, and the order of its lines.
pub mod Journal
pub mod Order
-- Sessions with marks.
pub mod Marked
-- What edits make of the plan.
pub mod Edits
