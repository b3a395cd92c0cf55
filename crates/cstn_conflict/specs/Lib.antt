-- Which constraints conflict, and what is said of them.
pub mod Conflicts
pub mod Texts
