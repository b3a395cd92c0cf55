-- What is next, by the bounds of a plan.
pub mod Next
