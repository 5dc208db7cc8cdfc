-- The first marked leaf below the first marked node is the first marked leaf.
use Rattle.ready_set.proofs.Descending.{first_of_all}
use Rattle.ready_set.proofs.tree.first_from.Goals as goal

pub returns-in-Some-clause-first : goal.returns-in-Some-clause-first
returns-in-Some-clause-first c =
    first_of_all c.args.marks.now c.args.leaf c.in-Some.root.levels c.in-Some.root.node c.descend.result c.in-Some.ensures.first c.descend.ensures
