-- A name's index is below the count of names.
use Rattle.std.proofs.Common.{sym, arith}
use Rattle.relup_make.proofs.Linked.{below}
use Rattle.relup_make.proofs.object_code.put.Goals as goal

pub index_mut-requires : goal.index_mut-requires
index_mut-requires c =
    let low = below c.in-Some.index c.args.app.now c.args.names.now (sym c.in-Some.ensures) in
    omega (arith, low)
