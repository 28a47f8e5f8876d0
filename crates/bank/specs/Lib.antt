pub mod Answers
pub mod Joined
pub mod Searches
pub mod Lawful
