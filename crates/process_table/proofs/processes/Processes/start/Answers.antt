-- A start that is not refused finds a pid that was not given.
use Rattle.std.proofs.Common.{ap, arith, sym, ◌∙◌}
use Rattle.std.specs.Option.{option_copied}
use Rattle.process_store.specs.Table.{is_taken, next_pid}
use Rattle.process_table.proofs.Starting.{pid_left}
use Rattle.process_table.proofs.processes.Processes.start.Goals as goal

pub add-requires-clause-given : goal.add-requires-clause-given
add-requires-clause-given c =
    let t = c.args.self.now in
    pid_left (is_taken (option_copied c.as_ref.result) t) (next_pid t) c.last_pid-last.result (next_pid c.self.inside.store) (ap next_pid c.self.view_is) (sym c.start_refusal.ensures ∙ c.in_default.is) c.last_pid-last.ensures.pid (omega arith)
