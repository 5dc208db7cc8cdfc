pub mod Calls
pub mod Codes
pub mod Findings
pub mod Gathering
pub mod Interfaces
pub mod Scripts
pub mod Suspended
