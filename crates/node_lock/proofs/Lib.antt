mod Counted
mod Crossing
mod Entered
mod Lined
mod Listed
