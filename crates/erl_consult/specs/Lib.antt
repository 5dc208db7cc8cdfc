pub mod Faults
pub mod FirstFault
pub mod Grammar
pub mod Printed
pub mod Parser
pub mod Steps
