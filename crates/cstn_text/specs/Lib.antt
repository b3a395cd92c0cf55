-- The limits.
pub mod Limits
-- What stands in a line: names, numbers, labels.
pub mod Names
pub mod Numbers
pub mod SmallNumbers
pub mod PrintedNames
pub mod PrintedLabels
pub mod Readings
-- How a text is cut, and how it grows.
pub mod Cuts
pub mod Parts
pub mod Pushes
-- Texts that list things.
pub mod Listings
-- How names are found.
pub mod NameKeys
