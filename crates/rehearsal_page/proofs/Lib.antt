pub mod Escaped
pub mod Showing
pub mod Standing
pub mod Written
