-- Words as sets, and lists.
pub mod BitLemmas
pub mod ChoiceLemmas
-- A log that grows.
pub mod LiveLemmas
mod BlockLemmas
mod AgendaLemmas
pub mod KeptLemmas
pub mod PushLemmas
-- Its entries as a derivation.
pub mod BornLemmas
pub mod DerivedLemmas
-- Logs that are cut.
pub mod LeftLemmas
pub mod CutLemmas
pub mod MarkLemmas
pub mod AncestorLemmas
pub mod StepLemmas
-- Lists that are kept, and put in again.
pub mod ListedLemmas
pub mod PutLemmas
