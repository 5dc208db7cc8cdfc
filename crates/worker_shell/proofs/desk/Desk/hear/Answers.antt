-- What the line says is done, and its answer written.
use Rattle.std.proofs.Common.{◌++◌, ap, subst, ◌∙◌}
use Rattle.std.specs.Option.{option_copied}
use Rattle.line_server.specs.Session.{IsExchange}
use Rattle.worker_shell.specs.Desk.{DeskState, desk_exchange}
use Rattle.worker_shell.proofs.Exchanges.{exchange-done}
use Rattle.worker_shell.proofs.desk.Desk.hear.Goals as goal

pub returns-clause-answered : goal.returns-clause-answered
returns-clause-answered g c =
    let files = c.self.inside.office.files.now in
    let out = c.args.out.now.items in
    let line = option_copied c.args.line in
    let exchange = exchange-done c.in_ok-fate.fate files c.self.inside.seat c.execute-said.new.seat line c.clear.new.self.items c.execute-said.new.out.items out c.extend_from_slice.new.self.items c.clear.ensures.items c.in_ok-fate.ensures (c.in_ok-extend_from_slice.ensures.items ∙ ap (λ l. out ++ l) c.as_slice.ensures.value) in
    subst (λ (d : DeskState). IsExchange (desk_exchange c.in_ok-fate.fate d line) (record { files = files; seat = c.execute-said.new.seat }) out c.extend_from_slice.new.self.items) c.self.view_is exchange
