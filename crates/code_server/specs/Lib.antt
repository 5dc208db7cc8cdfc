pub mod Modules
pub mod Indices
pub mod Undo
