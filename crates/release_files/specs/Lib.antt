pub mod AllFaults
pub mod Faults
pub mod Files
pub mod Found
pub mod Paths
pub mod Releases
