pub mod Evaluated
pub mod Finishing
pub mod Gives
pub mod Tags
