pub mod Fields
pub mod Said
