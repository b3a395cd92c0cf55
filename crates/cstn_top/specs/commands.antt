-- What commands say, where no crate below says it.
pub mod Run
pub mod Edit
pub mod Follow
pub mod Host
pub mod Closed
pub mod Save
pub mod Sentences
pub mod Plan
pub mod Drill
pub mod Version
