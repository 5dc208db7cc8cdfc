pub mod Escaping
pub mod Page
pub mod Parts
