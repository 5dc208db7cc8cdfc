-- What is seen of a node.
use Rattle.std.specs.Prelude.{ℕ, List, map, Option, option_map}
use Rattle.app_table.specs.Applications.{Application}
use Rattle.code_server.specs.Modules.{Table as Loaded}
use Rattle.code_server.specs.declared.modules.Instance.{Instance}
use Rattle.code_server.specs.declared.modules.Slots.{Slots}
use Rattle.erl_ir.specs.Module.{Forms}
use Rattle.process.specs.Process.{ProcessState}
use Rattle.process.specs.declared.activity.Activity.{Activity}
use Rattle.process.specs.declared.activity.Activity.TheVariants.{Idle, Suspended, Runs}
use Rattle.process_store.specs.Table.{Table, living}
use Rattle.release_statuses.specs.declared.listed.Listed.{Listed}
use Rattle.node_views.specs.declared.node_view.AppView.{AppView}
use Rattle.node_views.specs.declared.node_view.ModuleView.{ModuleView}
use Rattle.node_views.specs.declared.node_view.NodeView.{NodeView}
use Rattle.node_views.specs.declared.node_view.ReleaseView.{ReleaseView}
use Rattle.node_views.specs.declared.process_view.Doing.{Doing}
use Rattle.node_views.specs.declared.process_view.Doing.TheVariants as doing
use Rattle.node_views.specs.declared.process_view.ProcessView.{ProcessView}

-- What a process does: of one that runs, the message.
abbrev pub doing_of : Activity → Doing
doing_of Idle = doing.Idle
doing_of Suspended = doing.Suspended
doing_of (Runs r) = doing.Running r.message

-- A process but for code: its pid, its name, where it rests, what it does, how many jobs it has committed, and its mailbox.
abbrev pub process_view : ProcessState → ProcessView
process_view p = record {
  pid = p.pid;
  name = p.name;
  place = p.place;
  doing = doing_of p.activity;
  turn = p.turn;
  mailbox = p.mailbox;
}

-- The process of a pid, where it lives; and a row with that of each pid that was given, the pid its index.

abbrev pub living_view : Table → ℕ → Option ProcessView
living_view t pid = option_map (λ entry. process_view entry.process) (living pid t)

abbrev pub process_views : Table → List (Option ProcessView)
process_views t = map (option_map (λ entry. process_view entry.process)) t.slots

-- Code by the serial of its load.
abbrev pub serial_of : Option (Instance Forms) → Option ℕ
serial_of instance = option_map (λ i. i.serial) instance

-- A module by its name, and the serials of its current and its old code.
abbrev pub module_view : List ℕ × Slots Forms → ModuleView
module_view entry = record { name = entry.0; current = serial_of entry.1.current; old = serial_of entry.1.former }

-- An application by its name, and whether it is started.
abbrev pub app_view : Application → AppView
app_view a = record { name = a.spec.name; is_started = a.is_started }

-- A release by its version, and its status.
abbrev pub release_view : Listed → ReleaseView
release_view it = record { vsn = it.release.rel.vsn; status = it.status }

-- A node, but for the code of its modules, the specifications of its children and the script that it runs.
abbrev pub node_view : Loaded Forms → Table → List Application → List Listed → NodeView
node_view modules processes apps releases = record {
  modules = map module_view modules.entries;
  processes = process_views processes;
  apps = map app_view apps;
  releases = map release_view releases;
}
