pub mod Commenting
pub mod Names
pub mod Taken
