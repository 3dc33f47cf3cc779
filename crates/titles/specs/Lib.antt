pub mod Counts
pub mod Titles
