-- The limits, and steps that may be refused.
pub mod Limits
pub mod Results
pub mod Refusals
-- Lines and words, and how names and numbers are written.
pub mod Words
pub mod Spelling
pub mod Spans
-- What a line says.
pub mod Lines
pub mod Grammar
pub mod Judged
pub mod Seen
-- What the lines declare, and the network that they mean.
pub mod Declarations
pub mod SeenDeclared
pub mod Meaning
pub mod SeenMeaning
pub mod Observers
pub mod Drawn
pub mod Plans
pub mod Answers
pub mod Planned
pub mod Held
-- The way back: a network in sentences, and what they say of moments.
pub mod Printed
pub mod NumbersSeen
pub mod Sentences
pub mod WrittenWords
pub mod Moments
pub mod MeantLines
