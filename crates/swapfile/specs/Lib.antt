pub mod Files
pub mod Reads
pub mod Ruled
pub mod Theorems
