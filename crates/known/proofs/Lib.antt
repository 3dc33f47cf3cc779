pub mod Decide
pub mod Files
pub mod Levels
pub mod Runs
