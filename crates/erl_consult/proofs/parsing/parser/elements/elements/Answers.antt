use Rattle.std.proofs.Common.{inr, refl}
use Rattle.erl_consult.proofs.Stepping.{elements_at-nothing}
use Rattle.erl_consult.proofs.parsing.parser.elements.elements.Goals as goal

pub returns-in-Nothing : goal.returns-in-Nothing
returns-in-Nothing c = inr (elements_at-nothing c.args.items.items c.args.items.len c.args.last c.args.items.ok.0 c.if-is_empty.ensures c.in-Nothing.is, refl, refl)
