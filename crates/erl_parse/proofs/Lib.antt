pub mod Apart
pub mod Meanings
