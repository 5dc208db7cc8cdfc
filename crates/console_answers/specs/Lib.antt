pub mod Comments
pub mod Help
pub mod Journal
pub mod Rows
