pub mod Counts
pub mod Kinds
pub mod Parts
pub mod Simple
