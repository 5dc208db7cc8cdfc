-- What stops the tokens is told, or the bracket that is open.
use Rattle.std.proofs.Common.{ap, ◌∙◌}
use Rattle.erl_parse.specs.Telling.{stopped, at_end, cut_off}
use Rattle.erl_parse.proofs.telling.at_end.Goals as goal

pub returns-in-Some : goal.returns-in-Some
returns-in-Some c = stopped {e = c.in-Some.fault} c.in-Some.is c.of_token.ensures

pub returns-in-None : goal.returns-in-None
returns-in-None c = at_end c.in-None.is (c.cut_off.ensures ∙ ap (λ b. cut_off b c.args.total) c.open_bracket.ensures)
