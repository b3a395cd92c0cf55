-- Trees, and their lines.
pub mod Trees
pub mod Read
pub mod Whole
-- Texts of trees.
pub mod Texts
pub mod Written
pub mod Reading
