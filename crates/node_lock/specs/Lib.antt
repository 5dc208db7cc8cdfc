pub mod Closing
pub mod Core
pub mod Entering
pub mod Naming
pub mod Opening
pub mod Seats
pub mod Unclosed
