mod Led
pub mod Replays
mod Exchanges
