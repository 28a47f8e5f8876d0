pub mod Openings
pub mod Fills
