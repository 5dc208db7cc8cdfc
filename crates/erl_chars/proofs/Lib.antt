pub mod Characters
pub mod Numbers
pub mod Utf8
