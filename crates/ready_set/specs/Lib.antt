pub mod Flags
pub mod Marks
