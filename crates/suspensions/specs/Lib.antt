pub mod Suspending
pub mod Versions
