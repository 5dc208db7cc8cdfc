pub mod Formed
pub mod Laws
pub mod Points
pub mod Regular
pub mod Rules
