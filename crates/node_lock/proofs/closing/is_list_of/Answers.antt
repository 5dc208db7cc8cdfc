use Rattle.std.proofs.Common.{◌≡◌}
use Rattle.std.proofs.lemmas.Bool.{false≢true}
use Rattle.entry_lists.specs.Entries.{written_out}
use Rattle.node_history.specs.Lists.{lines_of}
use Rattle.node_lock.proofs.Lined.{foreign, gone_by}
use Rattle.node_lock.proofs.closing.is_list_of.Goals as goal

pub returns-then-not-goes_by : goal.returns-then-not-goes_by
returns-then-not-goes_by c =
    let number = c.args.number in
    let whole = written_out c.args.lines.now ≡ lines_of number (written_out c.args.history.now) in (
      (λ yes. absurd (false≢true yes)),
      (λ w. absurd (foreign number c.in-Some.entry.now c.loop-entry.entries c.next.new.self c.loop-entry.left whole c.in-Some.ensures c.loop-entry.invariant c.if-not-goes_by.ensures.no w)),
    )

pub loop-entry-preserved : goal.loop-entry-preserved
loop-entry-preserved c =
    let number = c.args.number in
    let whole = written_out c.args.lines.now ≡ lines_of number (written_out c.args.history.now) in
    gone_by number c.in-Some.entry.now c.loop-entry.entries c.next.new.self c.loop-entry.left whole c.in-Some.ensures c.loop-entry.invariant c.goes_by.new.left c.if-not-goes_by.ensures.yes
