-- By what the line asks for.
use Rattle.std.proofs.Common.{◌∙◌, IfOk, Option, Some, ap, refl, subst, sym}
use Rattle.line_server.specs.Session.{IsExchange}
use Rattle.node_console.proofs.Answering.{IfOk-then}
use Rattle.node_console.specs.Console.{AnswersRequest, unchanged}
use Rattle.node_console.specs.Held.{console_of}
use Rattle.shell_requests.specs.Console.{ConsoleRequest}
use Rattle.shell_requests.specs.ConsoleReading.{console_meant}
use Rattle.shell_requests.specs.declared.console.ConsoleRequest.{ConsoleRequest as ReadRequest}
use Rattle.node_console.proofs.session.do_request.Goals as goal

pub returns-in-None : goal.returns-in-None
returns-in-None c =
    subst (λ (o : Option ConsoleRequest). IfOk c.obey.result (λ fate. IsExchange (AnswersRequest (console_of c.args.held.now c.args.books.now) c.args.line.now o fate) (console_of c.obey.new.held c.obey.new.books) c.args.out.now.items c.obey.new.out.items)) c.in-None.ensures c.obey.ensures

pub returns-in-Some-Show : goal.returns-in-Some-Show
returns-in-Some-Show c =
    let meant = sym (ap (λ (r : ReadRequest). Some (console_meant r)) c.in-Some-Show.field-0-is) ∙ c.in-Some-Show.ensures in
    let here = console_of c.args.held.now c.args.books.now in
    subst (λ (o : Option ConsoleRequest). IfOk c.show.result (λ fate. IsExchange (AnswersRequest here c.args.line.now o fate) here c.args.out.now.items c.show.new.out.items)) meant
    (IfOk-then c.show.result _ _ c.show.ensures (λ fate shown. (unchanged shown.0 here, (shown.0, shown.1, refl), refl, shown.2)))

pub returns-in-Some-NameMark : goal.returns-in-Some-NameMark
returns-in-Some-NameMark c =
    let meant = sym (ap (λ (r : ReadRequest). Some (console_meant r)) c.in-Some-NameMark.field-0-is) ∙ c.in-Some-NameMark.ensures in
    subst (λ (o : Option ConsoleRequest). IfOk c.name_here.result (λ fate. IsExchange (AnswersRequest (console_of c.args.held.now c.args.books.now) c.args.line.now o fate) (console_of c.args.held.now c.name_here.new.books) c.args.out.now.items c.name_here.new.out.items)) meant c.name_here.ensures

pub returns-in-Some-ToNamed : goal.returns-in-Some-ToNamed
returns-in-Some-ToNamed c =
    let meant = sym (ap (λ (r : ReadRequest). Some (console_meant r)) c.in-Some-ToNamed.field-0-is) ∙ c.in-Some-ToNamed.ensures in
    subst (λ (o : Option ConsoleRequest). IfOk c.obey_named.result (λ fate. IsExchange (AnswersRequest (console_of c.args.held.now c.args.books.now) c.args.line.now o fate) (console_of c.obey_named.new.held c.obey_named.new.books) c.args.out.now.items c.obey_named.new.out.items)) meant c.obey_named.ensures
