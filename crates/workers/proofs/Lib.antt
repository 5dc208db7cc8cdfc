pub mod Behind
pub mod Growth
pub mod Halted
mod MoreAdvances
mod MoreReads
mod MoreRounds
pub mod Passed
pub mod Unanswered
