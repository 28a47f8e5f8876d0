pub mod Tallying
pub mod Running
pub mod Keeping
pub mod Steps
