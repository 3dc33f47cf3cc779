pub mod Graphs
pub mod Search
pub mod Sizes
