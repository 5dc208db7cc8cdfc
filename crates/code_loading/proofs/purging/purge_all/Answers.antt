-- That all who linger are ended is the same as module after module.
use Rattle.std.proofs.Common.{◌∙◌, ap}
use Rattle.process_effects.specs.Ends.{all_vacated}
use Rattle.code_loading.proofs.ModuleByModule.{all_lingering_leave}
use Rattle.code_loading.proofs.purging.purge_all.Goals as goal

pub returns-clause-processes : goal.returns-clause-processes
returns-clause-processes c =
    let t = c.args.processes.now in
    c.in_ok-killed.ensures.ended ∙ ap (λ x. all_vacated x t) (c.as_slice.ensures.value ∙ c.in_ok-pids.ensures) ∙ all_lingering_leave c.args.names.now c.args.modules.now t
