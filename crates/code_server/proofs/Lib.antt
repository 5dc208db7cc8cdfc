pub mod Changes
pub mod Redoing
pub mod Reloads
pub mod Removing
pub mod Serials
pub mod Sound
pub mod Standing
