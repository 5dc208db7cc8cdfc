-- What the line says is done.
use Rattle.std.proofs.Common.{Some, ◌++◌, ap, ◌∙◌}
use Rattle.node_shell.proofs.Exchanges.{exchange-done}
use Rattle.node_shell.proofs.shell.ShellSessionSession.line.Goals as goal

pub returns-clause-answered : goal.returns-clause-answered
returns-clause-answered c =
    exchange-done c.in_ok-fate.fate c.self.inside.held c.args.self.now c.execute.new.held (Some c.args.line.now) c.clear.new.self.items c.execute.new.out.items c.args.out.now.items c.extend_from_slice.new.self.items c.self.view_is c.clear.ensures.items c.in_ok-fate.ensures (c.in_ok-extend_from_slice.ensures.items ∙ ap (λ l. c.args.out.now.items ++ l) c.as_slice.ensures.value)
