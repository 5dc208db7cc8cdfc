-- Each of the three is as before.
use Rattle.code_replacement.proofs.Unended.{children_again}
use Rattle.code_replacement.specs.Replacing.{running}
use Rattle.code_replacement.proofs.reverting.revert_purges.Goals as goal

pub returns-in-Ok-clause-ok : goal.returns-in-Ok-clause-ok
returns-in-Ok-clause-ok c = λ before has back.
    let modules = c.in-Ok.ensures.modules before.modules before.processes back.code in
    let processes = c.in-Ok.ensures.processes before.modules before.processes back.code has.sound has.stand in
    let apps = children_again c.args.undo.ended before.apps c.args.apps.now c.unend.new.apps back.children c.unend.ensures.undone c.unend.ensures.none in
    (λ j. running (modules j) (processes j) (apps j))
