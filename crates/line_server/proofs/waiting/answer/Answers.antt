-- The session hears of a line what `heard` says.
use Rattle.line_server.specs.Lines.{longest_line}
use Rattle.line_server.proofs.Telling.{heard-short, heard-long}
use Rattle.line_server.proofs.waiting.answer.Goals as goal

pub returns-then-line-le-LONGEST_LINE-clause-answered :
    goal.returns-then-line-le-LONGEST_LINE-clause-answered
unfolding longest_line
returns-then-line-le-LONGEST_LINE-clause-answered g c =
    let short = heard-short c.args.line.now c.if-line-le-LONGEST_LINE.true in
    rw short c.line.ensures.answered

pub returns-clause-answered : goal.returns-clause-answered
unfolding longest_line
returns-clause-answered g c =
    let long = heard-long c.args.line.now c.if-line-le-LONGEST_LINE.false in
    rw long c.too_long.ensures.answered
