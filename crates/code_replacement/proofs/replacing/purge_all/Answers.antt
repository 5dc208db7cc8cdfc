-- Children end all at once as they do module after module.
use Rattle.std.proofs.Common.{◌∙◌}
use Rattle.app_table.specs.Applications.{all_ended}
use Rattle.code_loading.specs.Purging.{all_purged, all_spared}
use Rattle.process_effects.specs.Told.{killed}
use Rattle.code_replacement.proofs.AtOnce.{all_at_once}
use Rattle.code_replacement.specs.Replacing.{running}
use Rattle.code_replacement.proofs.replacing.purge_all.Goals as goal

pub returns-in-Ok-clause-purged : goal.returns-in-Ok-clause-purged
returns-in-Ok-clause-purged c =
    let m = c.args.modules.now in
    let t = c.args.processes.now in
    let apps = c.args.apps.now in
    let pids = c.as_slice.ensures.value ∙ c.in_ok-pids.ensures in
    let ended = c.in_ok-ended.ensures.ended in
    (λ j. running (c.in-Ok.ensures.modules j) (c.in-Ok.ensures.processes j) (ended j))
    ∙ (λ j. running (all_purged c.args.names.now m) (all_spared c.args.names.now m t) (all_ended killed (pids j) apps))
    ∙ all_at_once c.args.names.now m t apps
