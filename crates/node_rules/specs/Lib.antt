pub mod Laws
pub mod Node
pub mod Scripts
pub mod Step
