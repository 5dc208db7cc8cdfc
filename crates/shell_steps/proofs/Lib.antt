pub mod Failing
pub mod Uncut
