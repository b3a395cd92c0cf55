-- The canonical document, and what is read of it.
pub mod Names
pub mod Canonical
pub mod ReadBack
