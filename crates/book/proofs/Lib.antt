pub mod Sums
pub mod Keeping
pub mod Looking
pub mod Scanning
pub mod Hiding
pub mod Listing
