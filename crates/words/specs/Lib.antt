pub mod Bytes
pub mod Hex
pub mod Numbers
pub mod Reading
pub mod Words
