-- A dot stands outside brackets.
use Rattle.std.proofs.Common.{inr}
use Rattle.erl_consult.specs.Parser.{seen}
use Rattle.erl_consult.proofs.Stepping.{take_dot-inside}
use Rattle.erl_consult.proofs.parsing.parser.Parser.take_dot.Goals as goal

pub returns-then-not-is_empty : goal.returns-then-not-is_empty
returns-then-not-is_empty c =
    let brackets = c.args.self.now.«open» in
    inr (take_dot-inside (seen c.args.self.now) brackets.items brackets.len c.args.at brackets.ok.0 c.if-not-is_empty.ensures)
