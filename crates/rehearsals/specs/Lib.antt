pub mod Observing
pub mod OnOtp
pub mod Ways
