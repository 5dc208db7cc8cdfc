pub mod Going
pub mod Happenings
pub mod Parts
pub mod Players
pub mod Seen
pub mod Stages
pub mod Sequences
