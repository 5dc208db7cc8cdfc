use Rattle.std.proofs.Common.{ℕ, length, sym, subst}
use Rattle.dependency_order.specs.Lists.{AreBelow, is_on}
use Rattle.dependency_order.proofs.Entering.{entered_below, relation_of}
use Rattle.dependency_order.proofs.relation.standing.Goals as goal

pub transposed-requires : goal.transposed-requires
transposed-requires c =
    let Below : ℕ → Type 0 = λ n. AreBelow n c.in_ok-on.on in
    subst Below (sym c.in_ok-on.ensures.many)
    (entered_below (is_on c.args.vertices.now) (length c.args.vertices.now) (length c.args.vertices.now) c.in_ok-on.on c.in_ok-on.ensures)

pub returns : goal.returns
returns c =
    relation_of (is_on c.args.vertices.now) (length c.args.vertices.now) c.in_ok-on.on c.in_ok-transposed.field-0 c.in_ok-on.ensures c.in_ok-transposed.ensures
