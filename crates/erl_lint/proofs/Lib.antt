pub mod Indices
pub mod Texts
pub mod Rows
pub mod Walking
pub mod Soonest
