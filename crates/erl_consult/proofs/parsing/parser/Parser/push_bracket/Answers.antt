-- The bracket stands last, and is the innermost.
use Rattle.std.proofs.Common.{rules, sym, ap}
use Rattle.erl_term.specs.Term.{trees}
use Rattle.erl_consult.specs.Parser.{last_seen}
use Rattle.erl_consult.specs.Steps.{goes}
use Rattle.erl_consult.proofs.Stepping.{frames-pop}
use Rattle.erl_consult.proofs.parsing.parser.Parser.push_bracket.Goals as goal
use Rattle.erl_consult.proofs.parsing.parser.Parser.push_bracket.Goals.{in-Ok, in-Err}

pub returns : goal.returns
returns c = elim c.match-push.branch [
  | in-Ok w ↦ rw w.result-is (ap (λ fs. goes (record { whole = trees c.args.self.now.whole.items; open_ones = fs; last = last_seen c.args.self.now.last })) (sym (frames-pop c.push.new.self.items c.args.self.now.«open».items c.args.opened w.in-Ok.ensures.items)))
  | in-Err w ↦ rw w.result-is (search rules)
]
