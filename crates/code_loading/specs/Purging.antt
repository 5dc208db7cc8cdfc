-- Several modules are purged, one after the other (code(3), purge; a release handler purges all that an upgrade has replaced).
use Rattle.std.specs.Prelude.{ℕ, List, [], ◌∷◌, ◌++◌}
use Rattle.erl_ir.specs.Module.{Forms}
use Rattle.code_server.specs.Modules.{Table as Loaded, purged}
use Rattle.process_effects.specs.declared.told.Reply.{Reply}
use Rattle.process_store.specs.Table.{Table}
use Rattle.code_loading.specs.Loading.{lingering, downs_of_purge, spared}

-- the modules after it, and the processes

abbrev pub all_purged : List (List ℕ) → Loaded Forms → Loaded Forms
all_purged [] m = m
all_purged (n ∷ ns) m = all_purged ns (purged n m)

abbrev pub all_spared : List (List ℕ) → Loaded Forms → Table → Table
all_spared [] m t = t
all_spared (n ∷ ns) m t = all_spared ns (purged n m) (spared n m t)

-- who is killed: those who linger in a module when its turn comes
abbrev pub all_lingering : List (List ℕ) → Loaded Forms → Table → List ℕ
all_lingering [] m t = []
all_lingering (n ∷ ns) m t = lingering n m t ++ all_lingering ns (purged n m) (spared n m t)

-- what the clients of their open calls are told
abbrev pub downs_of_purges : List (List ℕ) → Loaded Forms → Table → List Reply
downs_of_purges [] m t = []
downs_of_purges (n ∷ ns) m t = downs_of_purge n m t ++ downs_of_purges ns (purged n m) (spared n m t)
