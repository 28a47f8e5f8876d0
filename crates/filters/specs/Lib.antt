pub mod Digested
pub mod Seconds
