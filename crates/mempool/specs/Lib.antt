pub mod Calls
pub mod Deliveries
pub mod Laws
