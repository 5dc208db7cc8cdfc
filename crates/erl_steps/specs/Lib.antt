pub mod Laws
pub mod Leading
pub mod Machine
pub mod Outcomes
pub mod Tags
pub mod Views
pub mod Work
