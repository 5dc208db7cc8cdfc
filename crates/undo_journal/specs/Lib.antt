pub mod History
pub mod Journal
pub mod Past
pub mod Reversible
pub mod Timeline
