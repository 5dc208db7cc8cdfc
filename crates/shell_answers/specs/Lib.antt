pub mod Answers
pub mod Faults
pub mod Refusals
pub mod Relups
