pub mod Carrying
pub use Rattle.node_parts.specs.Changes
pub use Rattle.node_parts.specs.Node
pub use Rattle.node_parts.specs.Pieces
pub use Rattle.node_parts.specs.Record
pub use Rattle.node_parts.specs.Scripts
pub use Rattle.node_parts.specs.Step
pub use Rattle.node_parts.specs.declared.record.Record as DeclaredRecord
pub use Rattle.node_parts.specs.OneOutcome
