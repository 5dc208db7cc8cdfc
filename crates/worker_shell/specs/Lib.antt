pub mod Desk
pub mod Run
