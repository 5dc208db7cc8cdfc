pub mod Accepting
pub mod Backs
pub mod Lost
pub use Rattle.node_rules.proofs.Booting
pub use Rattle.node_rules.proofs.OneOutcome
pub use Rattle.node_rules.proofs.Steps
