-- One more of the last run is one more entry behind all others, of an idle entry.
use Rattle.std.proofs.Common.{◌≡◌, ◌+◌, ◌-◌, ◌++◌, ◌∷◌, [], length, ap, ◌∙◌, arith, rules}
use Rattle.std.proofs.lemmas.List.Elements.{All-set}
use Rattle.entry_lists.specs.Entries.{IsRun, written_out}
use Rattle.entry_lists.proofs.Runs.{entries_of-count, written_out-count_last}
use Rattle.entry_lists.proofs.entries.count_repeat.Goals as goal

pub returns-clause-counted : goal.returns-clause-counted
returns-clause-counted g c =
    let runs = c.args.runs.now in
    let last = c.in-Some.last.now in
    let same : last.entry ≡ c.args.entry.now = search rules in
    written_out-count_last runs last c.in-Some.ensures.item.3.0 c.in-Some.ensures.item.1 ∙ ap (λ entry. written_out runs ++ entry ∷ []) same

pub returns-clause-entries : goal.returns-clause-entries
returns-clause-entries g c =
    let last = c.in-Some.last.now in
    entries_of-count c.args.runs.now (length c.args.runs.now - 1) last (last.count + 1) c.in-Some.ensures.item.1

pub returns-clause-counts : goal.returns-clause-counts
returns-clause-counts g c =
    let last = c.in-Some.last.now in
    let idle : g.E.Repeats.IsIdle last.entry = search rules in
    All-set (IsRun g.E.Repeats.IsIdle) c.args.runs.now (length c.args.runs.now - 1) (record { entry = last.entry; count = last.count + 1 }) (record { some = omega arith; idle = λ _. idle }) c.requires.counts
