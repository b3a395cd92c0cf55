-- What a host keeps, and an id's own calls.
pub mod Ids
pub mod CaseLemmas
pub mod OwnLemmas
-- Answers to host lines.
pub mod PutLines
pub mod Same
pub mod Moments
pub mod Answered
pub mod Accepted
pub mod Endings
pub mod Plays
-- Laws of answers: whole lines, each id apart, least moments.
pub mod Whole
pub mod Apart
pub mod Own
pub mod Least
