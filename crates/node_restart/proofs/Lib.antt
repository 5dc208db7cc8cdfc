pub mod AllCalls
pub mod Serials
pub mod Telling
