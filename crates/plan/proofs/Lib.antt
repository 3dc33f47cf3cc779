pub mod Exits
pub mod Facts
pub mod Holdings
pub mod Unique
