pub mod Backs
pub mod OneWay
pub mod Renewed
pub mod Servers
pub mod Upgraded
