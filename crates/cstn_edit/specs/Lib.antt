-- Sessions, their edits and their verdicts.
pub mod Sessions
pub mod Edits
pub mod Sound
-- What a session keeps, and what it answers to lines.
pub mod Fresh
pub mod Editing
