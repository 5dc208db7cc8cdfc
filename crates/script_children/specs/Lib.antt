pub mod Applying
pub mod Calls
pub mod Children
pub mod Pieces
pub mod Undo
