pub mod Changing
pub mod Laws
pub mod Renewing
pub mod Undo
