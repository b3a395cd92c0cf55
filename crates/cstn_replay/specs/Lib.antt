-- Wrong steps, and what is said of them.
pub mod Wrong
pub mod Texts
