pub mod Note
pub mod Reported
