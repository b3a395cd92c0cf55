-- Hosts, and the calls on them.
pub mod Hosts
pub mod Calls
pub mod Own
pub mod Read
-- Sessions of host lines.
pub mod Sessions
pub mod Files
pub mod SessionRead
pub mod Examples
-- What holds of each id alone.
pub mod Alone
pub mod Least
