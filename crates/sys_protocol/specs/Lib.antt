pub mod AppStarts
pub mod ChildFaults
pub mod ChildStarts
pub mod Laws
pub mod Refusals
pub mod RunningChildren
pub mod StartResults
pub mod Stopping
