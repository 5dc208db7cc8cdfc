-- The state is the last station's node.
use Rattle.std.proofs.Common.{Err, subst, ap, ◌∙◌}
use Rattle.undo_journal.specs.Timeline.{here}
use Rattle.undo_journal.proofs.Chains.{state_of-timeline}
use Rattle.undo_journal.proofs.Timelines.{PerformFails-from_want}
use Rattle.undo_journal.proofs.journal.Journal.failure_without_memory.Goals as goal

pub returns-in-Some : goal.returns-in-Some
returns-in-Some g c =
    let j = c.self.inside in
    let node = state_of-timeline g.S.Reversible.undoes j.floor j.first.value j.first_note j.past.items j.last j.state c.self.invariant.0 ∙ ap (λ t. (here t).node) c.self.view_is in
    subst (λ s. g.S.Reversible.rule s c.args.event.now (Err c.in-Some.refusal)) node c.in-Some.ensures

pub returns-in-None : goal.returns-in-None
returns-in-None g c =
    let j = c.self.inside in
    let t = c.args.self.now in
    let node = state_of-timeline g.S.Reversible.undoes j.floor j.first.value j.first_note j.past.items j.last j.state c.self.invariant.0 ∙ ap (λ u. (here u).node) c.self.view_is in
    PerformFails-from_want (g.S.Reversible.rule (here t).node c.args.event.now) _ t c.out_of_memory.result (subst (λ s. g.S.Reversible.may_run_out s c.args.event.now) node c.in-None.ensures) c.out_of_memory.ensures
