-- What was looked at is a front of the entries still.
use Rattle.std.proofs.Common.{List, sym, ap, ◌∙◌, subst}
use Rattle.entry_lists.specs.Entries.{EntryList, RepeatsLast, entries_of}
use Rattle.entry_lists.specs.declared.entries.Run.{Run}
use Rattle.entry_lists.proofs.Looked.{HasLooked-grow}
use Rattle.entry_lists.proofs.history.History.push.Goals as goal

pub invariant_of-self : goal.invariant_of-self
invariant_of-self g c = HasLooked-grow g.E.Replying.client_of g.E.Replying.replies_of c.self.inside.entries.runs c.push.new.self.runs c.self.inside.found c.push.ensures.runs c.self.invariant

pub returns-clause-counted : goal.returns-clause-counted
returns-clause-counted g c repeats =
    let is = ap (λ (v : EntryList g.row.E.Denot). v.runs) c.self.view_is in
    c.push.ensures.counted (subst (λ (rs : List (Run g.row.E.Denot)). RepeatsLast g.E.Repeats.IsIdle rs c.args.entry) (sym is) repeats) ∙ ap entries_of is
