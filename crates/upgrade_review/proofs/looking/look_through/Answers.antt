-- The findings about the modules, and then those about the instructions.
use Rattle.upgrade_review.proofs.Whole.{found_of_parts, once_of_parts}
use Rattle.upgrade_review.specs.Gathering.{IsFoundIn, IsNotLoadedIn}
use Rattle.upgrade_review.proofs.looking.look_through.Goals as goal

pub returns-clause-found : goal.returns-clause-found
returns-clause-found c =
    found_of_parts c.args.left.now c.args.installed.now c.args.script.now _ _ _ c.new-found.ensures.items
    c.in_ok-note_not_loaded.ensures c.in_ok-note_instructions.ensures

pub returns-clause-once : goal.returns-clause-once
returns-clause-once c =
    let left = c.args.left.now in
    let installed = c.args.installed.now in
    let script = c.args.script.now in
    once_of_parts (IsNotLoadedIn left installed script) (IsFoundIn left installed script) _ _ _ c.new-found.ensures.items
    c.in_ok-note_not_loaded.ensures c.in_ok-note_instructions.ensures
