-- The parts of a running node.
use Rattle.std.specs.Prelude.{ℕ, Bool, false, List, Option, None, Some, option_and_then, option_map}
use Rattle.app_table.specs.Applications.{Application, app_of, child_of}
use Rattle.app_table.specs.Children.{is_due}
use Rattle.app_table.specs.Ordered.{pid_in}
use Rattle.app_table.specs.declared.child.Child.{Child}
use Rattle.code_server.specs.Modules.{Table as Loaded, current_of}
use Rattle.erl_ir.specs.Module.{Forms}
use Rattle.erl_term.specs.declared.term.Term.{Term}
use Rattle.process.specs.Process.{ProcessState}
use Rattle.process_store.specs.Table.{Table, living}
use Rattle.node_questions.specs.declared.running.Running.{Running as Read}

-- The code of the modules of a node, its processes, and its applications with their children; and the same as it is read.

pub record Running : Type 0 where
  pub modules : Loaded Forms
  pub processes : Table
  pub apps : List Application

abbrev pub running_of : Read → Running
running_of r = record { modules = r.modules.now; processes = r.processes.now; apps = r.apps.now }

-- Whether an application of a name runs.

abbrev pub is_started_in : Option Application → Bool
is_started_in None = false
is_started_in (Some a) = a.is_started

abbrev pub runs : List ℕ → List Application → Bool
runs name apps = is_started_in (app_of name apps)

-- The process of a child, if it runs; and the process of the child of an Id in the application of a name.

abbrev pub process_of : Child → Table → Option ProcessState
process_of c t = option_and_then (λ pid. option_map (λ entry. entry.process) (living pid t)) (pid_in c.state)

abbrev pub process_in : List ℕ → Term → Running → Option ProcessState
process_in name id n = option_and_then (λ c. process_of c n.processes) (child_of name id n.apps)

-- Whether a child is due: its supervisor starts it again (supervisor(3), Restart).
abbrev pub is_awaited : Option Child → Bool
is_awaited None = false
is_awaited (Some c) = is_due c

-- The current code of a module.
abbrev pub code_of : List ℕ → Loaded Forms → Option Forms
code_of m modules = option_map (λ i. i.code) (current_of m modules)
