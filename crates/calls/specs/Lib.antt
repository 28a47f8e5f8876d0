pub mod Tallies
pub mod Events
pub mod Answers
pub mod Sheets
pub mod Promise
pub mod Replied
pub mod Theorems
