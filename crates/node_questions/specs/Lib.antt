pub mod Differences
pub mod Lingering
pub mod Outlooks
pub mod Parts
pub mod Running
pub mod Shapes
pub mod Unsuspended
