pub mod Evaluating
pub mod Forming
pub mod Matching
pub mod Outcomes
pub mod Ruling
