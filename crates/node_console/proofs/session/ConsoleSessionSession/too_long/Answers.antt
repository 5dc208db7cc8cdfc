-- What is done of the line is done.
use Rattle.std.proofs.Common.{None, ◌++◌, ap, ◌∙◌}
use Rattle.node_console.proofs.Answering.{answered_into}
use Rattle.node_console.specs.Held.{console_of}
use Rattle.node_console.proofs.session.ConsoleSessionSession.too_long.Goals as goal

pub returns-clause-answered : goal.returns-clause-answered
returns-clause-answered c =
    answered_into c.in_ok-fate.fate (console_of c.self.inside.held c.self.inside.books) c.args.self.now (console_of c.answer_line.new.held c.answer_line.new.books) None c.clear.new.self.items c.answer_line.new.out.items c.args.out.now.items c.extend_from_slice.new.self.items c.self.view_is c.clear.ensures.items c.in_ok-fate.ensures (c.in_ok-extend_from_slice.ensures.items ∙ ap (λ l. c.args.out.now.items ++ l) c.as_slice.ensures.value)
