-- One text more stands behind the others, and none is left at the end.
use Rattle.std.proofs.Common.{arith}
use Rattle.erl_term.specs.Term.{trees}
use Rattle.erl_lower.specs.Literals.{characters}
use Rattle.erl_lower.proofs.Rows.{next_text, ended_text}
use Rattle.erl_lower.proofs.literals.characters.Goals as goal

pub loop-text-preserved : goal.loop-text-preserved
loop-text-preserved c =
    next_text c.args.texts.now c.loop-text.text-index c.text-item.result (trees c.loop-text.items.items) (trees c.push_characters.new.items.items)
    (characters c.args.texts.now) c.loop-text-test.true c.text-item.is c.in_ok-push_characters.ensures c.loop-text.invariant

pub returns : goal.returns
returns c =
    ended_text c.args.texts.now c.loop-text.text-index (trees c.loop-text.items.items) (characters c.args.texts.now)
    (omega (arith, c.loop-text-test.false)) c.loop-text.invariant
