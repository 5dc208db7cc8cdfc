mod Commanded
pub mod Longer
mod Marks
mod OneEnd
