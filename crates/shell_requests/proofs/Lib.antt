mod Lines
mod Spaces
mod Counts
