pub mod Positions
pub mod Shown
