pub mod Laws
pub mod Restart
