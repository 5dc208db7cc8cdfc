pub mod Replay
pub mod Run
pub mod Shell
