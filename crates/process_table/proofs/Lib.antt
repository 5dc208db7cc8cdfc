pub mod Arriving
pub mod Jobs
pub mod Restating
pub mod Resuming
pub mod Runnable
pub mod Starting
