mod Fronts
mod Looked
mod Left
mod Runs
