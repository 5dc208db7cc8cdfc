-- Children end module after module, or all at once.
use Rattle.std.proofs.Common.{◌≡◌, ℕ, List, [], ◌∷◌, ◌++◌, refl, ap, ◌∙◌}
use Rattle.erl_ir.specs.Module.{Forms}
use Rattle.erl_term.specs.declared.term.Term.{Term}
use Rattle.app_table.specs.Applications.{Application, all_ended, ended}
use Rattle.code_loading.specs.Loading.{lingering, spared}
use Rattle.code_loading.specs.Purging.{all_lingering, all_purged, all_spared}
use Rattle.code_server.specs.Modules.{Table as Loaded, purged}
use Rattle.process_effects.specs.Told.{killed}
use Rattle.process_store.specs.Table.{Table}
use Rattle.code_replacement.specs.Replacing.{all_without, running}

both_ended : (reason : Term) (first others : List ℕ) (apps : List Application) → all_ended reason (first ++ others) apps ≡ all_ended reason others (all_ended reason first apps)
both_ended reason [] others apps = refl
both_ended reason (pid ∷ first) others apps = both_ended reason first others (ended reason pid apps)

pub all_at_once : (ns : List (List ℕ)) (m : Loaded Forms) (t : Table) (apps : List Application) → running (all_purged ns m) (all_spared ns m t) (all_ended killed (all_lingering ns m t) apps) ≡ all_without ns (running m t apps)
all_at_once [] m t apps = refl
all_at_once (n ∷ ns) m t apps =
    ap (running (all_purged ns (purged n m)) (all_spared ns (purged n m) (spared n m t))) (both_ended killed (lingering n m t) (all_lingering ns (purged n m) (spared n m t)) apps)
    ∙ all_at_once ns (purged n m) (spared n m t) (all_ended killed (lingering n m t) apps)
