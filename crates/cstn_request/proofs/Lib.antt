-- Files that were read, and documents in them.
pub mod Contents
pub mod Asking
pub mod ReadFiles
pub mod ReadAll
pub mod Joining
pub mod Opening
