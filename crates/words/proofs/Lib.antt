mod Counting
mod Pairing
pub mod Searching
pub mod Wording
