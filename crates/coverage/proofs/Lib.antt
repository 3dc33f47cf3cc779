pub mod Below
pub mod Lowest
