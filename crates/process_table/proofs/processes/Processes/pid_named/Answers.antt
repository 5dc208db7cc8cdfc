-- The name is asked for by its text.
use Rattle.std.proofs.Common.{ap, ◌∙◌}
use Rattle.process_store.specs.Table.{pid_of}
use Rattle.process_table.proofs.processes.Processes.pid_named.Goals as goal

pub returns : goal.returns
returns c = c.pid_of.ensures ∙ ap (λ name. pid_of name c.args.self.now) c.as_str.ensures.chars
