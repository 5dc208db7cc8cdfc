pub use Rattle.script_events.specs.Node
pub use Rattle.script_events.specs.Scripts
pub use Rattle.script_events.specs.Step
