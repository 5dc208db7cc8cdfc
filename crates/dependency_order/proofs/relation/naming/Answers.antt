use Rattle.std.proofs.Common.{ℕ, length, sym, subst}
use Rattle.dependency_order.specs.Lists.{AreBelow, is_named}
use Rattle.dependency_order.proofs.Entering.{entered_below, relation_of}
use Rattle.dependency_order.proofs.relation.naming.Goals as goal

pub transposed-requires : goal.transposed-requires
transposed-requires c =
    let Below : ℕ → Type 0 = λ n. AreBelow n c.in_ok-namers.namers in
    subst Below (sym c.in_ok-namers.ensures.many)
    (entered_below (is_named c.args.vertices.now) (length c.args.vertices.now) (length c.args.vertices.now) c.in_ok-namers.namers c.in_ok-namers.ensures)

pub returns : goal.returns
returns c =
    relation_of (is_named c.args.vertices.now) (length c.args.vertices.now) c.in_ok-namers.namers c.in_ok-transposed.field-0 c.in_ok-namers.ensures c.in_ok-transposed.ensures
