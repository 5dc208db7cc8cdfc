-- What was done to children and applications is taken back.
use Rattle.std.proofs.Common.{◌≡◌, OnOk, subst, sym}
use Rattle.code_replacement.specs.Replacing.{HasItsCode}
use Rattle.script_runner.specs.Instructions.{running_of}
use Rattle.script_runner.specs.Parts.{Parts, parts_of}
use Rattle.script_runner.specs.Undo.{TakesBack}
use Rattle.script_runner.specs.declared.undo.InstructionUndo.{InstructionUndo}
use Rattle.script_runner.proofs.reverting.revert.Goals as goal

pub returns-in-Children-clause-ok : goal.returns-in-Children-clause-ok
returns-in-Children-clause-ok c =
    let now = parts_of c.args.modules.now c.args.processes.now c.args.apps.now c.args.progress.now in
    let new = c.revert_children.new in
    let then = parts_of new.modules new.processes new.apps new.progress in
    let Back : InstructionUndo → Type 0 = λ u. OnOk c.revert_children.result ((before : Parts) → HasItsCode (running_of before) → TakesBack u before now → then ≡ before) in
    subst Back (sym c.in-Children.is) c.revert_children.ensures.ok
