-- How it is drawn and made, and that it is well-formed.
pub mod DrawLemmas
pub mod MadeLemmas
pub mod WellFormed
