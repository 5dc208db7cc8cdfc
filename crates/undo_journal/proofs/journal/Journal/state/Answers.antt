-- The chain of the entries ends in the state.
use Rattle.std.proofs.Common.{ap, ◌∙◌}
use Rattle.undo_journal.specs.Timeline.{here}
use Rattle.undo_journal.proofs.Chains.{state_of-timeline}
use Rattle.undo_journal.proofs.journal.Journal.state.Goals as goal

pub returns : goal.returns
returns g c =
    let j = c.self.inside in
    state_of-timeline g.S.Reversible.undoes j.floor j.first.value j.first_note j.past.items j.last j.state c.self.invariant.0 ∙ ap (λ t. (here t).node) c.self.view_is
