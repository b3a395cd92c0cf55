-- Bytes that are written and told.
pub mod Written
pub mod Contents
-- Sessions over lines.
pub mod Sessions
pub mod Talking
pub mod SessionEnds
