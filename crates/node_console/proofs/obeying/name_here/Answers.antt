-- The name is made, or there is no memory for it.
use Rattle.std.proofs.Common.{ℕ, List, IfOk, refl, subst}
use Rattle.line_server.specs.Session.{IsExchange}
use Rattle.node_console.proofs.Answering.{IfOk-then, not_named}
use Rattle.node_console.specs.Console.{NamesHere}
use Rattle.node_console.specs.Held.{console_of}
use Rattle.node_console.proofs.obeying.name_here.Goals as goal

pub returns-in-Ok : goal.returns-in-Ok
returns-in-Ok c =
    subst (λ (n : List ℕ). IfOk c.give_name.result (λ fate. IsExchange (NamesHere (console_of c.args.held.now c.args.books.now) n fate) (console_of c.args.held.now c.give_name.new.books) c.args.out.now.items c.give_name.new.out.items))
    c.in-Ok.ensures c.give_name.ensures

pub returns-in-Err : goal.returns-in-Err
returns-in-Err c =
    IfOk-then c.refuse.result _ _ c.refuse.ensures (λ fate told. not_named _ _ _ fate c.args.out.now.items c.refuse.new.out.items refl told)
