-- First the applications, and then the code.
use Rattle.std.proofs.Common.{sym, subst}
use Rattle.upgrade_review.proofs.Adding.{none_twice}
use Rattle.upgrade_review.specs.Findings.{AreDifferent}
use Rattle.node_questions.proofs.Differing.{differs_of_parts}
use Rattle.node_questions.specs.Running.{running_of}
use Rattle.node_questions.proofs.comparing.differences.Goals as goal

pub returns-clause-found : goal.returns-clause-found
returns-clause-found c =
    differs_of_parts (running_of c.args.upgraded) (running_of c.args.booted) _ _ _ _ _ c.new-found.ensures.items
    c.in_ok-note_booted_apps.ensures c.in_ok-note_upgraded_apps.ensures c.in_ok-note_booted_code.ensures
    c.in_ok-note_upgraded_code.ensures

pub returns-clause-once : goal.returns-clause-once
returns-clause-once c =
    c.in_ok-note_upgraded_code.ensures.once (c.in_ok-note_booted_code.ensures.once (c.in_ok-note_upgraded_apps.ensures.once
    (c.in_ok-note_booted_apps.ensures.once (subst AreDifferent (sym c.new-found.ensures.items) none_twice))))
