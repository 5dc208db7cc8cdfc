pub mod Backs
pub mod Taken
