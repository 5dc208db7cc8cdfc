pub mod AllRunning
pub mod ApplicationsOneWay
pub mod ChildrenOneWay
pub mod Lengths
pub mod Names
pub mod Reached
pub mod StartValues
pub mod SupervisionGiven
