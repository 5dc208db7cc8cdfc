pub mod Ended
pub mod JobCode
pub mod Named
pub mod Indices
pub mod Process
pub mod Rerun
