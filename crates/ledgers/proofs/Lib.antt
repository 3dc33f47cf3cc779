pub mod LawsHold
pub mod Rows
