-- Each turn adds one character, and the turns are all of them.
use Rattle.std.proofs.Common.{ℤ, arith, map-id, sym, ap, ◌∙◌}
use Rattle.std.proofs.lemmas.Iterator.{YieldsList-from_chars}
use Rattle.std.proofs.lemmas.Iterator.Consumers.{YieldsList-end}
use Rattle.std.proofs.lemmas.Int.{ints}
use Rattle.erl_term.specs.Rows.{append_trees, integers}
use Rattle.erl_term.specs.Term.{trees}
use Rattle.erl_term.specs.Tree.{int}
use Rattle.erl_consult.specs.Steps.{with_element}
use Rattle.erl_consult.proofs.Stepping.{append_trees-none, integers-more}
use Rattle.erl_consult.proofs.parsing.parser.elements.push_piece.Goals as goal

pub loop-c-init : goal.loop-c-init
loop-c-init c =
    sym (append_trees-none (trees c.args.items.now.items))

pub loop-c-preserved : goal.loop-c-preserved
loop-c-preserved c =
    integers-more (trees c.args.items.now.items) (trees c.loop-c.items.items) (trees c.push.new.items.items) c.loop-c.yielded c.in-Some.c c.loop-c.invariant
    (c.in_ok-push.ensures.ok ∙ ap (λ (z : ℤ). with_element (trees c.loop-c.items.items) (int z)) (omega (arith, ints)))

pub returns-clause-ok : goal.returns-clause-ok
returns-clause-ok c =
    let all = YieldsList-end (YieldsList-from_chars c.args.piece.now c.utf8.piece cc) c.loop-c.yielded _ c.loop-c.yielded_by _ _ c.in-None.is c.next.ensures.steps in
    c.loop-c.invariant ∙ ap (λ cs. append_trees (trees c.args.items.now.items) (integers cs)) (sym (map-id c.loop-c.yielded) ∙ all.0)
