pub mod Cuts
pub mod Ends
pub mod Steps
pub mod Streams
pub mod Telling
