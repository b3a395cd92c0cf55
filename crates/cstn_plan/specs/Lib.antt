-- The moments that bounds ask for, and plans.
pub mod Asked
pub mod Plans
