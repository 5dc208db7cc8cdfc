-- The line is noted, or nothing is done.
use Rattle.std.proofs.Common.{ℕ, List, IfOk, refl, subst}
use Rattle.line_server.specs.Session.{IsExchange}
use Rattle.node_console.proofs.Answering.{IfOk-then, not_noted}
use Rattle.node_console.specs.Console.{Obeys}
use Rattle.node_console.specs.Held.{console_of, order_said}
use Rattle.node_console.proofs.obeying.obey.Goals as goal

pub returns-in-Ok : goal.returns-in-Ok
returns-in-Ok c =
    subst (λ (l : List ℕ). IfOk c.obey_noted.result (λ fate. IsExchange (Obeys (console_of c.args.held.now c.args.books.now) l (order_said c.args.order) fate) (console_of c.obey_noted.new.held c.obey_noted.new.books) c.args.out.now.items c.obey_noted.new.out.items))
    c.in-Ok.ensures c.obey_noted.ensures

pub returns-in-Err : goal.returns-in-Err
returns-in-Err c =
    IfOk-then c.refuse.result _ _ c.refuse.ensures (λ fate told. not_noted _ _ c.args.line.now (order_said c.args.order) fate c.args.out.now.items c.refuse.new.out.items refl told)
