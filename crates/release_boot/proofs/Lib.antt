pub mod Applications
pub mod OneOutcome
pub mod Orders
