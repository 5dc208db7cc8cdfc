pub mod Finding
pub mod ObjectCode
pub mod Runner
