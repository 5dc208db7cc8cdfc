pub mod Aging
pub mod Gathering
pub mod Rising
