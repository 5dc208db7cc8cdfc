pub mod Delimiters
pub mod Leaves
pub mod Reading
pub mod Readings
pub mod Refusing
