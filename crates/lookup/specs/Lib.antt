pub mod Listed
pub mod Lawful
