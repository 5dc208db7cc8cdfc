-- A node restarts (release_handler(3), install_release/1, reboot_old_release/1; relup(4), point_of_no_return): all processes end,
-- nobody of them starts again, and a release boots in their place. Serials and pids go on.
use Rattle.std.specs.Prelude.{◌≡◌, ◌+◌, ◌^◌, nat_lt, ℕ, Bool, if◌then◌else◌, List, codes, length, map, Option, None, Some}
use Rattle.std.specs.List.{list_any}
use Rattle.app_table.specs.Applications.{Application}
use Rattle.code_server.specs.Modules as code
use Rattle.code_server.specs.Modules.{Table as Loaded}
use Rattle.code_server.specs.declared.error.CodeError.{CodeError}
use Rattle.code_server.specs.declared.error.CodeError.TheVariants.{CounterEnd}
use Rattle.erl_ir.specs.Module.{Forms}
use Rattle.erl_term.specs.declared.term.Term.{Term}
use Rattle.erl_term.specs.declared.term.Term.TheVariants.{Atom}
use Rattle.process_effects.specs.Told.{down}
use Rattle.process_effects.specs.declared.told.Reply.{Reply}
use Rattle.process_index.specs.Calls.{AreInOrder, has}
use Rattle.process_index.specs.declared.calls.Call.{Call}
use Rattle.process_store.specs.Indexed.{is_asked_by}
use Rattle.process_store.specs.Table as processes
use Rattle.process_store.specs.Table.{Table}
use Rattle.release_boot.specs.Boot.{Restarts, modules_of}
use Rattle.release_table.specs.declared.table.Release.{Release}

-- The calls that are open, whichever process is asked: all of them, and no other, in order of client and number.
pub record AreOpenCalls (t : Table) (calls : List Call) : Type 0 where
  pub ordered : AreInOrder calls
  pub all : (c : Call) → has c calls ≡ list_any (is_asked_by c) t.slots

-- the reason for which a process ends where its node restarts
abbrev pub restart : Term
restart = Atom (codes "restart")

-- The client of each open call is told that its process has ended so: not process after process, but in order of client and
-- number.
abbrev pub TellsRestart : Table → List Reply → Type 0
TellsRestart t told = (calls : List Call) × AreOpenCalls t calls × (told ≡ map (down restart) calls)

-- The release boots behind the serials and the pids that were given, each module under a serial of its own. Of its applications
-- those that fail to start are passed over.
abbrev pub RestartsAs : Release → Loaded Forms → Table → Loaded Forms → Table → List Application → Type 0
RestartsAs r modules t modules_after after apps =
    Restarts r (code.emptied modules) (processes.emptied t) modules_after after apps

-- It can't where fewer serials are left than the release has modules: the last is 2^64 - 1.

abbrev pub lacks_serials : Release → ℕ → Bool
lacks_serials r next = nat_lt (2 ^ 64) (next + length (modules_of r.apps))

abbrev pub restart_refusal : Release → Loaded Forms → Option CodeError
restart_refusal r modules = if lacks_serials r modules.next then Some CounterEnd else None
