-- The token is told, or what is told of the end.
use Rattle.std.proofs.Common.{◌≡◌}
use Rattle.module_forms.specs.FirstFault.{StandsAt}
use Rattle.erl_parse.specs.Telling.{at_token, of_end}
use Rattle.erl_parse.proofs.telling.of_refusal.Goals as goal

pub returns-in-Some : goal.returns-in-Some
returns-in-Some c = at_token {spot = c.in-Some.told.now} c.in-Some.ensures c.at_token.ensures

pub returns-in-None : goal.returns-in-None
returns-in-None c = of_end c.in-None.ensures c.at_end.ensures
