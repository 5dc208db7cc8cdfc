mod Advanced
mod Altered
mod Unpacked
pub use Rattle.shell_state.proofs.Done
pub use Rattle.shell_state.proofs.Performing
