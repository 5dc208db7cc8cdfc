pub mod Chains
pub mod Floors
pub mod Forgets
pub mod Histories
pub mod Stations
pub mod Timelines
