pub mod Entries
pub mod Tried
pub mod Zipped
