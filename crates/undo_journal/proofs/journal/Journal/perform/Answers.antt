-- The state is the last station's node, so the rule that the step follows is that node's. The entry
-- that is put is the next station's.
use Rattle.std.proofs.Common.{◌+◌, ◌∷◌, [], ◌++◌, subst, ap, sym, ◌∙◌}
use Rattle.undo_journal.specs.Journal.{FailsBy, PerformFails}
use Rattle.undo_journal.specs.Past.{timeline_of}
use Rattle.undo_journal.specs.Reversible.{Accepts, Refuses}
use Rattle.undo_journal.specs.Timeline.{here, appended}
use Rattle.undo_journal.proofs.Chains.{state_of-timeline}
use Rattle.undo_journal.proofs.Timelines.{kept-push, timeline_of-push, Performs-aside, PerformFails-by}
use Rattle.undo_journal.proofs.journal.Journal.perform.Goals as goal

pub returns-then-is_err-clause-refused : goal.returns-then-is_err-clause-refused
returns-then-is_err-clause-refused g c =
    let j = c.self.inside in
    let same = ap (λ ps. timeline_of j.floor j.first.value j.first_note ps j.last) c.reserve.ensures.items ∙ c.self.view_is in
    subst (λ u. PerformFails (g.S.Reversible.rule (here u).node c.args.event.now) (g.S.Reversible.may_run_out (here u).node c.args.event.now) u c.failure_without_memory.result) same c.failure_without_memory.ensures

pub returns-in-Err-clause-refused : goal.returns-in-Err-clause-refused
returns-in-Err-clause-refused g c =
    let j = c.self.inside in
    let t = c.args.self.now in
    let node = state_of-timeline g.S.Reversible.undoes j.floor j.first.value j.first_note j.past.items j.last j.state c.self.invariant.0 ∙ ap (λ u. (here u).node) c.self.view_is in
    let refuses = subst (λ s. Refuses (g.S.Reversible.rule s c.args.event.now) (g.S.Reversible.may_run_out s c.args.event.now) c.in-Err.error) node c.in-Err.ensures.refused in
    let same = ap (λ ps. (here (timeline_of j.floor j.first.value j.first_note ps j.last)).serial) c.reserve.ensures.items ∙ ap (λ u. (here u).serial) c.self.view_is in
    PerformFails-by (g.S.Reversible.rule (here t).node c.args.event.now) (g.S.Reversible.may_run_out (here t).node c.args.event.now) t c.in-Err.error c.failure.result refuses (subst (λ at. FailsBy c.in-Err.error at c.failure.result) same c.failure.ensures)

pub invariant_of-self-2 : goal.invariant_of-self-2
invariant_of-self-2 g c =
    let j = c.self.inside in
    let entered = c.enter.ensures in
    let entry = entered.0 in
    kept-push g.S.Reversible.undoes j.floor j.first.value j.first_note j.past.items c.enter.new.past.items j.last entry j.state c.step.new.self entered.2 entered.5 (entered.1 ∙ ap (λ ps. ps ++ entry ∷ []) c.reserve.ensures.items) (subst (λ r. g.S.Reversible.undoes r j.state c.step.new.self) (sym entered.3) c.in-Ok.ensures.reversible) c.self.invariant.0 c.self.invariant.1

pub returns-clause-performed : goal.returns-clause-performed
returns-clause-performed g c =
    let j = c.self.inside in
    let t = c.args.self.now in
    let entered = c.enter.ensures in
    let entry = entered.0 in
    let items = entered.1 ∙ ap (λ ps. ps ++ entry ∷ []) c.reserve.ensures.items in
    let node = state_of-timeline g.S.Reversible.undoes j.floor j.first.value j.first_note j.past.items j.last j.state c.self.invariant.0 ∙ ap (λ u. (here u).node) c.self.view_is in
    let new = ap (λ ps. timeline_of j.floor j.first.value j.first_note ps (j.last + 1)) items ∙ timeline_of-push j.floor j.first.value j.first_note j.past.items j.last entry entered.2 ∙ ap (λ u. appended u entry.node.value entry.note) c.self.view_is ∙ ap (λ s. appended t s entry.note) entered.5 ∙ ap (λ k. appended t c.step.new.self k) entered.4 in
    Performs-aside (g.S.Reversible.rule (here t).node c.args.event.now) c.step.new.self c.args.n c.from.result c.in-Ok.stepped.told.items c.pop.new.self.items c.in-Some.kept t _ c.from.ensures (subst (λ s. Accepts (g.S.Reversible.rule s c.args.event.now) c.step.new.self (c.from.result + 1) c.in-Ok.stepped.told.items) node c.in-Ok.ensures.accepted) c.in-Some.ensures.items new
