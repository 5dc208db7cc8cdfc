pub mod Pids
