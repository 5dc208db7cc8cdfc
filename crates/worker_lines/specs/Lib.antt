pub mod Telling
pub mod Asking
pub mod Execution
pub use Rattle.shell_exec.specs.Fate
