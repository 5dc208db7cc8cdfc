pub mod Kept
pub mod Refusals
pub mod Stepped
