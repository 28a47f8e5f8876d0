pub mod Glyphs
pub mod Classes
pub mod Coverages
pub mod Meanings
