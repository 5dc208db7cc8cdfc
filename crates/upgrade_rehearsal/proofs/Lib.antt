pub mod Going
pub mod Leading
pub mod Performing
pub mod Sequences
pub mod Waiting
pub mod Ways
pub mod Whole
