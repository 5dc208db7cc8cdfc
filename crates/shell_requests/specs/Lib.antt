pub mod Reading
pub mod Request
pub mod Words
pub mod Terms
pub mod Console
pub mod ConsoleReading
