pub mod Opened
pub mod Wide
