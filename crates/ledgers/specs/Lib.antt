pub mod Calls
pub mod LawfulKinds
pub mod Laws
pub mod Rows
pub mod Stocks
