pub mod Bytes
pub mod Headings
pub mod Looks
pub mod Rules
pub mod Steps
pub mod Total
pub mod Unique
