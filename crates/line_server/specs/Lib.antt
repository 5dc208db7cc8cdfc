pub mod Lines
pub mod Progress
pub mod Serving
pub mod Session
