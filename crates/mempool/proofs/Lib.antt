pub mod Keeping
pub mod Promises
pub mod Waits
