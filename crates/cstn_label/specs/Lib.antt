-- The limits.
pub mod Limits
-- Labels and bounds, and the letters of propositions.
pub mod Marks
pub mod Labels
pub mod Bounds
pub mod Letters
pub mod OnLetters
-- The relations as functions that answer true or false.
pub mod Tests
-- How the program has them: as words.
pub mod Words
pub mod Read
