-- Where conclusions are.
pub mod Shapes
-- The rules are sound.
pub mod Sound
pub mod Derived
