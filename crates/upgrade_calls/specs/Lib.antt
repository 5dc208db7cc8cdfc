pub mod Applying
pub mod Changing
pub mod Evaluated
pub mod Laws
pub mod NewStates
pub mod Tagged
