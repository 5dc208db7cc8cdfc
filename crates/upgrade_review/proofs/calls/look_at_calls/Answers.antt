-- The findings about the modules of each release, and about the instructions.
use Rattle.std.proofs.Common.{sym, subst}
use Rattle.upgrade_review.proofs.Adding.{none_twice}
use Rattle.upgrade_review.proofs.Unanswered.{found-of-parts}
use Rattle.upgrade_review.specs.Findings.{AreDifferent}
use Rattle.upgrade_review.proofs.calls.look_at_calls.Goals as goal

pub returns-clause-found : goal.returns-clause-found
returns-clause-found c =
    let p = c.args.passage in
    found-of-parts p.way p.left.now p.installed.now p.script.now _ _ _ _ c.new-found.ensures.items
    c.in_ok-note_callers.ensures c.in_ok-note_callers-2.ensures c.in_ok-note_applies.ensures

pub returns-clause-once : goal.returns-clause-once
returns-clause-once c =
    c.in_ok-note_applies.ensures.once (c.in_ok-note_callers-2.ensures.once (c.in_ok-note_callers.ensures.once
    (subst AreDifferent (sym c.new-found.ensures.items) none_twice)))
