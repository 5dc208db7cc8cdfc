-- Of the terms so far, and each call goes down.
use Rattle.std.proofs.Common.{◌≡◌, ◌+◌, ◌*◌, true, Bool, take, List}
use Rattle.erl_term.specs.declared.term.Term.{Term}
use Rattle.erl_term.specs.RoundTrip.{are_bounded, have_pids}
use Rattle.erl_term.specs.Tree.{depth, greatest_depth}
use Rattle.erl_term.specs.Term.{tree, trees}
use Rattle.erl_term.proofs.term.+pids.Given as goal

abbrev pub decreases-Term::has_pids : goal.decreases-Term::has_pids
decreases-Term::has_pids l = 2 * depth (tree l.self.now)

abbrev pub decreases-round_trip::have_pids : goal.decreases-round_trip::have_pids
decreases-round_trip::have_pids l = 2 * greatest_depth (trees l.terms.now) + 1

pub record SoFar (have : Bool) (terms : List Term) : Type 0 where
  pub pids : have ≡ have_pids (trees terms)
  pub bounded : are_bounded (trees terms) ≡ true

abbrev pub invariant-round_trip::have_pids-loop-term : goal.invariant-round_trip::have_pids-loop-term
invariant-round_trip::have_pids-loop-term l = SoFar l.have (take l.term-index l.terms)
