use Rattle.std.proofs.Common.{rules, ap, ◌∙◌}
use Rattle.erl_term.specs.Term.{trees}
use Rattle.erl_consult.proofs.Stepping.{trees-push}
use Rattle.erl_consult.proofs.parsing.parser.elements.push.Goals as goal
use Rattle.erl_consult.proofs.parsing.parser.elements.push.Goals.{in-Ok, in-Err}

pub returns-clause-ok : goal.returns-clause-ok
returns-clause-ok c = elim c.match-push.branch [
  | in-Ok w ↦ rw w.result-is (ap (λ ts. trees ts) w.in-Ok.ensures.items ∙ trees-push c.args.items.now.items c.args.term)
  | in-Err w ↦ search rules
]
