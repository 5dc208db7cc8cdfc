-- What is left is a front of the entries, with at least `keep` of them, and a chain to the state.
use Rattle.std.proofs.Common.{◌≡◌, ◌≤◌, take, vec_len}
use Rattle.undo_journal.specs.Past.{Chained}
use Rattle.undo_journal.proofs.past.take_back_to.Given as goal

abbrev pub invariant-loop-state : goal.invariant-loop-state
invariant-loop-state g l =
    record {
      front : l.past.items ≡ take (vec_len l.past) l.initial.past.items;
      kept : l.keep ≤ vec_len l.past;
      shorter : vec_len l.past ≤ vec_len l.initial.past;
      chain :
          (first : _) → Chained g.S.Reversible.undoes first l.initial.past.items l.initial.state → Chained g.S.Reversible.undoes first l.past.items l.state;
    }

abbrev pub decreases-loop-state : goal.decreases-loop-state
decreases-loop-state g l = vec_len l.past
