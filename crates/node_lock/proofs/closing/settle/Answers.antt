-- All parts are together, and the book counts as many entries as the seats have lines.
use Rattle.std.proofs.Common.{◌≡◌, All, length, sym, subst, arith}
use Rattle.node_lock.specs.Closing.{IsListOf, lines_in}
use Rattle.node_lock.specs.Core.{CoreState}
use Rattle.node_lock.proofs.Counted.{only-theirs}
use Rattle.node_lock.proofs.closing.settle.Goals as goal

pub returns-clause-closed : goal.returns-clause-closed
returns-clause-closed g c =
    let inside = c.core.inside in
    let seats = c.args.seats.items in
    let history = inside.history.items in
    let parts : c.gathered-all.result.parts ≡ g.N.Ledger.parts = omega (arith, c.gathered-all.ensures.parts, c.gathered-all.ensures.few, c.requires.each.all, c.core.invariant.2, inside.few.few) in
    let as-many : lines_in seats ≡ length history = omega (arith, c.audit.ensures.whole parts, c.gathered-all.ensures.amount, c.core.invariant.1, c.core.invariant.3) in
    let lists = subst (λ (s : CoreState). All (IsListOf s.history) seats) (sym c.core.view_is) c.requires.lists in
    record {
      legal = record { node = inside.booted.value; booted = c.core.invariant.0.booted; legal = c.core.invariant.0.legal };
      all = c.requires.each;
      lists = lists;
      entries = only-theirs g.N.Naming.seats seats history c.requires.each lists as-many;
    }
