-- Each turn looks at one term more.
use Rattle.std.proofs.Common.{rules}
use Rattle.erl_term.proofs.Rows.{depth_in}
use Rattle.erl_term.proofs.Bounds.{have_pids-more, are_bounded-more, atom_bounded}
use Rattle.erl_term.proofs.term.+pids.Goals as goal

pub Term::has_pids-returns-in-Atom-clause-bounded :
    goal.Term::has_pids-returns-in-Atom-clause-bounded
Term::has_pids-returns-in-Atom-clause-bounded t c = atom_bounded c.args.self.now c.in-Atom.atom c.as_str-name.result.now c.in-Atom.is c.as_str-name.ensures.chars c.as_str-name.ensures.kept c.as_str-name.utf8

pub round_trip::have_pids-loop-term-preserved : goal.round_trip::have_pids-loop-term-preserved
round_trip::have_pids-loop-term-preserved t c = record {
  pids = have_pids-more c.args.terms.now c.loop-term.term-index c.term-item.result c.loop-term.have c.has_pids-have.result c.loop-term-test.true c.term-item.is c.loop-term.invariant.pids c.has_pids-have.ensures.pids;
  bounded = are_bounded-more c.args.terms.now c.loop-term.term-index c.term-item.result c.loop-term-test.true c.term-item.is c.loop-term.invariant.bounded c.has_pids-have.ensures.bounded;
}

pub round_trip::have_pids-has_pids-have-requires : goal.round_trip::have_pids-has_pids-have-requires
round_trip::have_pids-has_pids-have-requires t c =
    let smaller = depth_in c.args.terms.now c.loop-term.term-index c.term-item.result c.loop-term-test.true c.term-item.is in
    search rules
