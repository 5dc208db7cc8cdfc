mod Arrived
mod Finding
mod Refusing
mod Sources
pub mod Answering
pub mod Led
