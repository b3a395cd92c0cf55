-- What is next, in the terms of bounds.
pub mod Lists
pub mod Coming
pub mod Exact
-- How the program finds it.
pub mod Filled
mod Told
