-- By what the mark is named for.
use Rattle.std.proofs.Common.{IfOk, subst, sym}
use Rattle.line_server.specs.Session.{IsExchange}
use Rattle.node_console.specs.Console.{Obeys, said_of}
use Rattle.node_console.specs.Held.{console_of}
use Rattle.shell_requests.specs.declared.request.MarkUse.{MarkUse}
use Rattle.node_console.proofs.obeying.obey_mark.Goals as goal

pub returns-in-Undo : goal.returns-in-Undo
returns-in-Undo c =
    subst (λ (k : MarkUse). IfOk c.obey.result (λ fate. IsExchange (Obeys (console_of c.args.held.now c.args.books.now) c.args.line.now (said_of k c.args.mark) fate) (console_of c.obey.new.held c.obey.new.books) c.args.out.now.items c.obey.new.out.items)) (sym c.in-Undo.is) c.obey.ensures

pub returns-in-Forget : goal.returns-in-Forget
returns-in-Forget c =
    subst (λ (k : MarkUse). IfOk c.obey-in-Forget.result (λ fate. IsExchange (Obeys (console_of c.args.held.now c.args.books.now) c.args.line.now (said_of k c.args.mark) fate) (console_of c.obey-in-Forget.new.held c.obey-in-Forget.new.books) c.args.out.now.items c.obey-in-Forget.new.out.items)) (sym c.in-Forget.is) c.obey-in-Forget.ensures
