pub mod First
pub mod Scopes
pub mod Keys
pub mod Faults
