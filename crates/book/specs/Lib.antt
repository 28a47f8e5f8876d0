pub mod Slots
pub mod Scans
pub mod Calls
pub mod Laws
pub mod Examples
