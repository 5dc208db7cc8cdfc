-- The open calls of all who linger are those of module after module.
use Rattle.std.proofs.Common.{◌≡◌, ◌∙◌, IfOk, List, replicate, subst}
use Rattle.erl_term.specs.declared.term.Term.TheVariants.{Atom}
use Rattle.process_effects.specs.Kills.{downs_of_each}
use Rattle.process_effects.specs.declared.told.Reply.{Reply}
use Rattle.code_loading.proofs.ModuleByModule.{all_lingering_told}
use Rattle.code_loading.proofs.purging.purges_told.Goals as goal

pub returns : goal.returns
returns c =
    let t = c.args.processes.now in
    let pids = c.as_slice.ensures.value ∙ c.in_ok-pids.ensures in
    subst (λ (x : List Reply). IfOk c.downs_of_each.result (λ it. it.items ≡ replicate c.args.n x))
    ((λ j. downs_of_each (Atom (c.predefined.ensures j)) (pids j) t) ∙ all_lingering_told c.args.names.now c.args.modules.now t)
    c.downs_of_each.ensures
