pub mod AppliesOneWay
pub mod Back
pub mod ChangesOneWay
pub mod Kept
pub mod NewStates
pub mod Reached
pub mod Seen
pub mod StatesFirst
