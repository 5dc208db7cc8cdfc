pub mod Changes
pub mod Pieces
pub mod Record
pub use Rattle.node_rules.specs.Node
pub use Rattle.node_rules.specs.Scripts
pub use Rattle.node_rules.specs.Step
pub use Rattle.node_rules.proofs.OneOutcome
