-- The terms so far are those of the items so far, of which holds what holds of each.
use Rattle.std.proofs.Common.{◌≡◌, take}
use Rattle.std.specs.List.{All}
use Rattle.erl_term.specs.Conversions.{rows}
use Rattle.erl_term.specs.Term.{trees}
use Rattle.erl_term.proofs.conversions.RowToTerm.to_term.Given as goal

abbrev pub invariant-loop-item : goal.invariant-loop-item
invariant-loop-item g l = record {
  written : trees l.terms.items ≡ rows g.T.ToTerm.writing (take l.item-index l.items);
  kept : All g.T.ToTerm.holds (take l.item-index l.items);
}
