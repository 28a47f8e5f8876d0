pub mod Answering
pub mod Searching
