pub mod Parts
pub mod Tables
pub mod Words
