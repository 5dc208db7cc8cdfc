pub mod Execution
pub mod Done
pub use Rattle.shell_relups.specs.Relups
pub use Rattle.shell_upgrades.specs.Done as HoldingsDone
pub use Rattle.shell_upgrades.specs.Fate
pub use Rattle.shell_upgrades.specs.Node
pub use Rattle.shell_upgrades.specs.Performing
pub use Rattle.shell_upgrades.specs.Serving
pub use Rattle.shell_upgrades.specs.State
pub use Rattle.shell_upgrades.specs.Step
pub use Rattle.shell_upgrades.specs.Undone
pub use Rattle.shell_upgrades.specs.Upgrades
