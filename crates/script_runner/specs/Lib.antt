pub mod Carrying
pub mod Failures
pub mod Instructions
pub mod Parts
pub mod Pieces
pub mod Replacing
pub mod Suspending
pub mod Undo
