-- The first message that is taken, or none.
use Rattle.std.proofs.Common.{arith, sym, ◌∙◌}
use Rattle.process.proofs.Indices.{position_at, position_nowhere, NonePasses-more}
use Rattle.process.specs.Process.{takes_at}
use Rattle.std.specs.Option.{option_copied}
use Rattle.process.proofs.process.first_of.Goals as goal

pub returns-then-branch : goal.returns-then-branch
returns-then-branch c =
    sym (position_at (takes_at c.args.pid c.args.place.now (option_copied c.args.rests_in)) c.args.mailbox.now.items c.loop-position.position c.in-Some.message.now (omega (arith, c.loop-position-test.true)) c.in-Some.ensures.lookup c.loop-position.invariant (sym (c.in_ok-takes.ensures) ∙ c.if-branch.true))

pub loop-position-preserved : goal.loop-position-preserved
loop-position-preserved c =
    NonePasses-more (takes_at c.args.pid c.args.place.now (option_copied c.args.rests_in)) c.args.mailbox.now.items c.loop-position.position c.in-Some.message.now (omega (arith, c.loop-position-test.true)) c.in-Some.ensures.lookup c.loop-position.invariant (sym (c.in_ok-takes.ensures) ∙ c.if-branch.false)

pub returns : goal.returns
returns c =
    sym (position_nowhere (takes_at c.args.pid c.args.place.now (option_copied c.args.rests_in)) c.args.mailbox.now.items (λ k d below. c.loop-position.invariant k d (omega (arith, c.loop-position-test.false, below))))
