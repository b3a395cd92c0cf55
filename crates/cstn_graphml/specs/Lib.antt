-- What a document means.
pub mod DrawnGraph
pub mod Judged
pub mod Document
pub mod Networks
pub mod Answers
-- What the program keeps while it reads.
pub mod DrawnGraphSeen
pub mod PartSeen
pub mod Labels
pub mod Kept
-- What holds of all that was read.
pub mod DrawnGraphLaws
