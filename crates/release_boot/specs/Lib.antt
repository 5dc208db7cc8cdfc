pub mod Boot
pub mod Laws
