mod Sizes
mod Climbing
mod Descending
mod Kept
