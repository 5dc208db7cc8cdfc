pub mod Replacing
pub mod Undo
