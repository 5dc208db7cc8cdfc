pub mod Backs
pub mod Latest
pub mod Permanent
pub mod Spelled
pub mod Standing
pub mod Tests
pub mod Texts
pub mod Writes
