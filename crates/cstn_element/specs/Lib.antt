-- What the texts of a document's data mean.
pub mod WhiteSpace
pub mod NumberTexts
pub mod LabelTexts
pub mod ValueTexts
pub mod EdgeTypes
pub mod ObservedLetters
-- Refusals, and what the elements of a document mean.
pub mod Results
pub mod Contents
pub mod Elements
-- How the program reads them.
pub mod TextsSeen
pub mod PairsLeft
pub mod Faults
pub mod Reads
pub mod Children
pub mod Passing
pub mod DataElementSeen
-- What the laws say of reading in turn.
pub mod InTurn
