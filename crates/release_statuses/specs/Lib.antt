pub mod Spelling
pub mod Statuses
pub mod Undo
