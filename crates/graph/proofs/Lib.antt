pub mod Joins
pub mod Made
pub mod Sizes
pub mod Statements
pub mod Steps
pub mod Ways
pub mod Whole
