-- Texts that are cut.
pub mod CutLemmas
pub mod SplitLemmas
-- Numbers, names and labels, printed and read.
pub mod NumberLemmas
pub mod PrintedNameLemmas
pub mod NameLemmas
pub mod PrintedLabelLemmas
pub mod LabelReadLemmas
-- The parts of a line.
pub mod PartLemmas
pub mod AnyOrderLemmas
pub mod ReadingLemmas
-- Listings, and their lines by place.
pub mod ListingLemmas
pub mod PlaceLemmas
