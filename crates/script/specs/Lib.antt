pub mod Lines
pub mod Meant
pub mod Verbs
