pub mod AtOnce
pub mod Unended
