pub mod Done
pub mod Performing
