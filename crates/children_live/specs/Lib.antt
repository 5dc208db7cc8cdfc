pub mod Children
pub mod Laws
