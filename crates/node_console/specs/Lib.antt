pub mod Console
pub mod Run
pub mod Held
