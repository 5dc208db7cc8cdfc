pub mod Acting
pub mod Telling
pub use Rattle.node_core.specs.Node
