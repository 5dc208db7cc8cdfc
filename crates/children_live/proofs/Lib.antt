pub mod Children
pub mod Keeping
pub mod Lives
pub mod Placing
pub mod Renewing
pub mod Starting
pub mod Steps
pub mod Stopping
