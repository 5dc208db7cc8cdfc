-- A job is committed: its acts are done, and its process ends.
use Rattle.std.specs.Prelude.{◌≡◌, ℕ, List, ◌++◌}
use Rattle.erl_term.specs.declared.term.Term.{Term}
use Rattle.erl_semantics.specs.declared.acts.Act.{Act}
use Rattle.erl_ir.specs.Module.{Forms}
use Rattle.code_server.specs.Modules.{IsModuleTable, Table as Loaded}
use Rattle.process_effects.specs.Acts.{acts_done, acts_told}
use Rattle.process_effects.specs.Parted.{AllReopen, all_reopened, all_unsent}
use Rattle.process_effects.specs.declared.exiting.Exited.{Exited}
use Rattle.process_effects.specs.Told.{downs}
use Rattle.process_effects.specs.Ends.{AllStand, Lives, Returns, returned}
use Rattle.process_effects.specs.declared.told.Reply.{Reply}
use Rattle.process_store.specs.Table.{Table, living}
use Rattle.process_store.specs.Vacating.{vacated}

-- the processes when a job's acts are done, and its process has left
abbrev pub exited : ℕ → List Act → Table → Table
exited pid acts t = vacated pid (acts_done acts t)

-- what clients are told: the replies, and then the calls that are open to the process that ends
abbrev pub exit_told : ℕ → Term → List Act → Table → List Reply
exit_told pid reason acts t = acts_told acts t ++ downs reason (living pid (acts_done acts t))

-- What takes that back: the process lives again, the calls are open again, and the messages go.

abbrev pub unexited : Loaded Forms → Exited → Table → Table
unexited modules u t = all_unsent u.receivers (all_reopened u.closed (returned modules u.ended t))

abbrev pub CanUnexit : Loaded Forms → Exited → Table → Type 0
CanUnexit modules u t = Returns modules u.ended t × (Lives modules u.ended → AllReopen u.closed (returned modules u.ended t))

-- it can be asked for, and gives the table before where the instances that processes used there stand in the table of modules
abbrev pub ExitsBack : Exited → Table → Table → Type 0
ExitsBack u before after = (modules : Loaded Forms) → CanUnexit modules u after ×
    (IsModuleTable modules → AllStand modules before → unexited modules u after ≡ before)
