-- Words, marks, labels and bounds.
pub mod WordLemmas
pub mod MarkLemmas
pub mod LabelLemmas
pub mod BoundLemmas
pub mod LetterLemmas
-- What the program has.
pub mod ReadLemmas
pub mod KnownLemmas
pub mod PlainLabels
