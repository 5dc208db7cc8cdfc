-- The refusal is told of what the node has of the release.
use Rattle.std.proofs.Common.{◌++◌, ap, ◌∙◌}
use Rattle.std.specs.Str.{chars}
use Rattle.shell_state.specs.Node.{NodeState}
use Rattle.shell_answers.specs.Answers.{line_of}
use Rattle.shell_state.proofs.Done.{IfOk-then}
use Rattle.shell_state.specs.Halts.{halt_answer}
use Rattle.shell_upgrades.specs.Upgrades.{subject_in}
use Rattle.shell_upgrades.proofs.altering.tell_unaltered.Goals as goal

pub returns : goal.returns
returns c =
    let vsn = chars c.args.vsn.now in
    let releases = c.releases.ensures ∙ ap (λ (n : NodeState). n.releases) c.node.ensures in
    let about = c.subject_in-about.ensures ∙ ap (subject_in vsn) releases in
    IfOk-then c.tell_halt_of.result _ _ c.tell_halt_of.ensures (λ fate told. (told.0, told.1 ∙ ap (λ b. c.args.out.now.items ++ line_of (halt_answer b c.args.halt)) about))
