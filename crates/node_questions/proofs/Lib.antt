pub mod Asked
pub mod Differing
pub mod Noted
pub mod Shaped
pub mod Turns
