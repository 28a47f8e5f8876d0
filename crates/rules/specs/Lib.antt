pub mod Views
pub mod Left
