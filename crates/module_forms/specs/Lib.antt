pub mod Openings
pub mod FormReading
pub mod FirstFault
pub mod Brackets
