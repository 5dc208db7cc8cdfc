-- A line, or one of too many bytes.
use Rattle.std.proofs.Common.{IfOk, ap, subst, sym}
use Rattle.std.specs.Option.{option_copied}
use Rattle.line_server.specs.Session.{IsExchange}
use Rattle.node_console.specs.Console.{does_line}
use Rattle.node_console.specs.Held.{console_of}
use Rattle.node_console.proofs.session.do_line.Goals as goal

pub returns-in-Some : goal.returns-in-Some
returns-in-Some c =
    subst (λ o. IfOk c.do_request.result (λ fate. IsExchange (does_line fate (console_of c.args.held.now c.args.books.now) (option_copied o)) (console_of c.do_request.new.held c.do_request.new.books) c.args.out.now.items c.do_request.new.out.items)) (sym c.in-Some.is) c.do_request.ensures

pub returns-in-None : goal.returns-in-None
returns-in-None c =
    subst (λ o. IfOk c.obey.result (λ fate. IsExchange (does_line fate (console_of c.args.held.now c.args.books.now) (option_copied o)) (console_of c.obey.new.held c.obey.new.books) c.args.out.now.items c.obey.new.out.items)) (sym c.in-None.is) c.obey.ensures
