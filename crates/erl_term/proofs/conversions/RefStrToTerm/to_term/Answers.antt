-- One character more in each turn, and all of them at the end.
use Rattle.std.proofs.Common.{◌≡◌, ap, sym, ◌∙◌}
use Rattle.std.specs.Str.{chars}
use Rattle.std.proofs.lemmas.List.{map-id}
use Rattle.std.proofs.lemmas.Iterator.{YieldsList-from_chars}
use Rattle.std.proofs.lemmas.Iterator.Consumers.{YieldsList-end}
use Rattle.erl_term.specs.Rows.{integers}
use Rattle.erl_term.specs.Term.{trees}
use Rattle.erl_term.specs.Tree.{list}
use Rattle.erl_term.proofs.Written.{integers_more}
use Rattle.erl_term.proofs.conversions.RefStrToTerm.to_term.Goals as goal

pub loop-c-preserved : goal.loop-c-preserved
loop-c-preserved c =
    ap trees c.in_ok-push.ensures.items ∙ integers_more c.loop-c.yielded c.in-Some.c c.loop-c.terms.items c.character_term.result c.loop-c.invariant c.character_term.ensures

pub returns-clause-written : goal.returns-clause-written
returns-clause-written c =
    let text = c.args.self.now.now in
    let whole = YieldsList-end (YieldsList-from_chars text c.type_inv.self cc) c.loop-c.yielded _ c.loop-c.yielded_by _ _ c.in-None.is c.next.ensures.steps in
    let all : c.loop-c.yielded ≡ chars text = sym (map-id c.loop-c.yielded) ∙ whole.0 in
    ap list (c.in_ok-characters.ensures ∙ c.loop-c.invariant ∙ ap integers all)
