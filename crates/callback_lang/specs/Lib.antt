pub mod Leading
pub mod Returns
pub mod Views
