pub mod Adding
pub mod Calling
pub mod Noting
pub mod Through
pub mod Unanswered
pub mod Whole
pub mod Windows
