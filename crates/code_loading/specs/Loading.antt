-- Code is loaded, deleted and purged under the processes that use it (Erlang Reference Manual, Compilation and Code Loading, Code
-- Replacement; code(3)).
use Rattle.std.specs.Prelude.{ℕ, Bool, true, false, List, [], ◌∷◌, Option, None, Some}
use Rattle.erl_ir.specs.Module.{Forms}
use Rattle.code_server.specs.Modules.{Table as Loaded, old_of}
use Rattle.code_server.specs.declared.modules.Instance as loaded
use Rattle.process_effects.specs.Kills.{downs_of_users, without_users}
use Rattle.process_effects.specs.Uses.{users}
use Rattle.process_effects.specs.declared.told.Reply.{Reply}
use Rattle.process_store.specs.Table.{Table}

-- Those who linger in a module use its old code. Where there is no old code nobody does.

abbrev pub lingering_in : Option (loaded.Instance Forms) → Table → List ℕ
lingering_in None t = []
lingering_in (Some i) t = users i.serial t

abbrev pub lingering : List ℕ → Loaded Forms → Table → List ℕ
lingering name modules t = lingering_in (old_of name modules) t

abbrev pub is_any : List ℕ → Bool
is_any [] = false
is_any (pid ∷ pids) = true

abbrev pub is_lingered_in : List ℕ → Loaded Forms → Table → Bool
is_lingered_in name modules t = is_any (lingering name modules t)

-- Where a module is purged they are killed, in order of pid: the processes without them, and what the clients of their open
-- calls are told.

abbrev pub spared_by : Option (loaded.Instance Forms) → Table → Table
spared_by None t = t
spared_by (Some i) t = without_users i.serial t

abbrev pub spared : List ℕ → Loaded Forms → Table → Table
spared name modules t = spared_by (old_of name modules) t

abbrev pub purge_told_by : Option (loaded.Instance Forms) → Table → List Reply
purge_told_by None t = []
purge_told_by (Some i) t = downs_of_users i.serial t

abbrev pub downs_of_purge : List ℕ → Loaded Forms → Table → List Reply
downs_of_purge name modules t = purge_told_by (old_of name modules) t
