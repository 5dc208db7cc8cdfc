use Rattle.std.proofs.Common.{eqb, refl, sym}
use Rattle.std.proofs.lemmas.Bool.{eq-eqb}
use Rattle.std.proofs.lemmas.Map.Keys.{any_passes_from_place}
use Rattle.dependency_order.proofs.Forests.{tie_of}
use Rattle.dependency_order.proofs.forest.tie.Goals as goal

pub returns-in-Some-Some : goal.returns-in-Some-Some
returns-in-Some-Some c =
    let one = c.in-Some-Some.one.now in
    let other = c.in-Some-Some.other.now in
    tie_of c.args.parents.now c.join_all.new.parents c.join_all-in-Some-Some.new.parents c.args.some.now c.args.others.now one other
    (any_passes_from_place (λ q. eqb q one) c.args.some.now 0 one (sym c.in-Some-Some.ensures.value) (eq-eqb one one refl))
    (any_passes_from_place (λ q. eqb q other) c.args.others.now 0 other (sym c.in-Some-Some.ensures'.value) (eq-eqb other other refl))
    c.join_all.ensures c.join_all-in-Some-Some.ensures
