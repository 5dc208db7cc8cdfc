-- There is room for the note, or nothing is done.
use Rattle.std.proofs.Common.{List, IfOk, refl, subst, ◌∙◌}
use Rattle.console_answers.specs.declared.journal.LoggedStep.{LoggedStep}
use Rattle.line_server.specs.Session.{IsExchange}
use Rattle.node_console.proofs.Answering.{IfOk-then, not_noted, same_console}
use Rattle.node_console.specs.Console.{Obeys}
use Rattle.node_console.specs.Held.{console_of, order_said}
use Rattle.node_console.proofs.obeying.obey_noted.Goals as goal

pub returns-in-Ok : goal.returns-in-Ok
returns-in-Ok c =
    subst (λ (ss : List LoggedStep). IfOk c.carry_noted.result (λ fate. IsExchange (Obeys (record { shell = c.args.held.now; steps = ss; marks = c.args.books.now.marks.items }) c.args.line (order_said c.args.order) fate) (console_of c.carry_noted.new.held c.carry_noted.new.books) c.args.out.now.items c.carry_noted.new.out.items))
    c.reserve.ensures.items c.carry_noted.ensures

pub returns-in-Err : goal.returns-in-Err
returns-in-Err c =
    IfOk-then c.refuse.result _ _ c.refuse.ensures (λ fate told. not_noted _ _ c.args.line (order_said c.args.order) fate c.args.out.now.items c.refuse.new.out.items (same_console c.args.held.now c.args.books.now.steps.items c.reserve.new.self.items c.args.books.now.marks.items c.args.books.now.marks.items c.reserve.ensures.items refl) told)
