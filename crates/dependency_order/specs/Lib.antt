pub mod Dealt
pub mod Forests
pub mod Groups
pub mod Laws
pub mod Left
pub mod Links
pub mod Lists
pub mod Orders
