pub mod Halts
pub mod State
pub mod Stepping
pub mod Undone
pub use Rattle.node_core.specs.Node
pub use Rattle.node_core.specs.Scripts
pub use Rattle.node_core.specs.Step
