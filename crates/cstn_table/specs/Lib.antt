-- Tables, and what raises their moments.
pub mod Tables
pub mod Read
pub mod Raises
