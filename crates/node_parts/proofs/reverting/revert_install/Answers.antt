-- The script that runs is the one that has begun.
use Rattle.std.proofs.Common.{◌∙◌, ap, sym}
use Rattle.std.specs.Prelude.{option_map}
use Rattle.node_parts.proofs.Backs.{install_fits}
use Rattle.node_parts.specs.Changes.{state_of}
use Rattle.script_state.specs.Runner.{runner_of}
use Rattle.node_parts.proofs.reverting.revert_install.Goals as goal

pub unset_specs-requires : goal.unset_specs-requires
unset_specs-requires c =
    let (before, undoes) = c.requires in
    install_fits before (state_of c.args.parts.now) c.in-Some.runner (ap (option_map runner_of) (sym c.take.ensures.value ∙ c.in-Some.is)) undoes
