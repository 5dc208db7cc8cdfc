-- What is told is done.
use Rattle.std.proofs.Common.{IfOk, subst, sym}
use Rattle.node_console.specs.Held.{order_said}
use Rattle.node_console.specs.declared.obeying.Order.{Order}
use Rattle.shell_exec.specs.Execution.{ExecutesLine}
use Rattle.shell_exec.specs.HoldingsDone.{IsDone}
use Rattle.node_console.proofs.obeying.carry_out.Goals as goal

pub returns-in-Line : goal.returns-in-Line
returns-in-Line c =
    subst (λ (o : Order). IfOk c.execute.result (λ fate. IsDone (ExecutesLine fate c.args.held.now (order_said o)) c.execute.new.held c.args.out.now.items c.execute.new.out.items)) (sym c.in-Line.is) c.execute.ensures

pub returns-in-TooLong : goal.returns-in-TooLong
returns-in-TooLong c =
    subst (λ (o : Order). IfOk c.execute-in-TooLong.result (λ fate. IsDone (ExecutesLine fate c.args.held.now (order_said o)) c.execute-in-TooLong.new.held c.args.out.now.items c.execute-in-TooLong.new.out.items)) (sym c.in-TooLong.is) c.execute-in-TooLong.ensures

pub returns-in-Undo : goal.returns-in-Undo
returns-in-Undo c =
    subst (λ (o : Order). IfOk c.undo.result (λ fate. IsDone (ExecutesLine fate c.args.held.now (order_said o)) c.undo.new.self c.args.out.now.items c.undo.new.out.items)) (sym c.in-Undo.is) c.undo.ensures

pub returns-in-Forget : goal.returns-in-Forget
returns-in-Forget c =
    subst (λ (o : Order). IfOk c.forget.result (λ fate. IsDone (ExecutesLine fate c.args.held.now (order_said o)) c.forget.new.self c.args.out.now.items c.forget.new.out.items)) (sym c.in-Forget.is) c.forget.ensures
