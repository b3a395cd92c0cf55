-- The network that a number and a size give.
pub mod Draws
pub mod Generated
-- What a builder holds on the way to it.
pub mod Made
