-- The least deadline, and the greatest least value, which it is.
pub mod Deadlines
pub mod Greatest
-- Its evidence, and what is said.
pub mod Evidence
pub mod Told
pub mod Texts
