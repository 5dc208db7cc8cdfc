pub mod Calls
pub mod Index
pub mod Laws
pub mod Numbers
pub mod Slots
pub mod Standing
