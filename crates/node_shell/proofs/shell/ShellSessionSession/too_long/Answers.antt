-- The shell tells that the line is too long.
use Rattle.std.proofs.Common.{None, ◌++◌, ap, ◌∙◌}
use Rattle.node_shell.proofs.Exchanges.{exchange-done}
use Rattle.node_shell.proofs.shell.ShellSessionSession.too_long.Goals as goal

pub returns-clause-answered : goal.returns-clause-answered
returns-clause-answered c =
    exchange-done c.in_ok-fate.fate c.self.inside.held c.args.self.now c.execute.new.held None c.clear.new.self.items c.execute.new.out.items c.args.out.now.items c.extend_from_slice.new.self.items c.self.view_is c.clear.ensures.items c.in_ok-fate.ensures (c.in_ok-extend_from_slice.ensures.items ∙ ap (λ l. c.args.out.now.items ++ l) c.as_slice.ensures.value)
