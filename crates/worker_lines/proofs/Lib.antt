mod Asked
mod Files
mod Heard
mod Waiting
