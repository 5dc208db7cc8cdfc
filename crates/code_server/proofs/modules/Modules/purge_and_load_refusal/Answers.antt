-- Old code does not stand against it, so only the end of the serials can.
use Rattle.std.proofs.Common.{◌+◌, ◌^◌, ◌<◌, sym, arith}
use Rattle.code_server.specs.Modules.{Table}
use Rattle.code_server.proofs.Reloads.{refused-end, refused-never}
use Rattle.code_server.proofs.modules.Modules.purge_and_load_refusal.Goals as goal

pub returns-then-self : goal.returns-then-self
returns-then-self g c = λ name.
    let t : Table g.row.C.Denot = record { entries = c.self.inside.table.entries; next = c.self.inside.last + 1 } in
    sym (refused-end name t c.args.self.now c.self.invariant (omega (arith, c.if-self.true)) c.self.view_is)

pub returns : goal.returns
returns g c = λ name.
    let t : Table g.row.C.Denot = record { entries = c.self.inside.table.entries; next = c.self.inside.last + 1 } in
    let below : c.self.inside.last + 1 < 2 ^ 64 = omega (arith, c.self.invariant.counted.1, c.if-self.false) in
    sym (refused-never name t c.args.self.now c.self.invariant below c.self.view_is)
