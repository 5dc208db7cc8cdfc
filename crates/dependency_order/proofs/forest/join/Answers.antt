use Rattle.std.proofs.Common.{arith}
use Rattle.dependency_order.proofs.Forests.{flatter_on, join_under, joining_swapped}
use Rattle.dependency_order.proofs.forest.join.Goals as goal

pub returns-then-top-other_top : goal.returns-then-top-other_top
returns-then-top-other_top c =
    let ps = c.args.parents.now in
    let qs = c.root-top.new.parents in
    let rs = c.root-other_top.new.parents in
    let one = c.root-top.ensures in
    let other = c.root-other_top.ensures in
    let many = one.flatter.many in
    let more = other.flatter.many in
    let before = other.before in
    let known = c.requires.other_known in
    joining_swapped ps _ c.args.other c.args.one
    (join_under ps rs c.args.other c.args.one c.root-other_top.result c.root-top.result (flatter_on ps qs rs one.flatter other.flatter)
    (λ names sound. other.joined names (one.flatter.sound names sound)) one.joined other.one
    (λ label respects. one.one label (other.flatter.full label respects)) other.root (omega (arith, many, more, before, known)) (omega arith))

pub returns-else-top-other_top : goal.returns-else-top-other_top
returns-else-top-other_top c =
    let ps = c.args.parents.now in
    let qs = c.root-top.new.parents in
    let rs = c.root-other_top.new.parents in
    let one = c.root-top.ensures in
    let other = c.root-other_top.ensures in
    let many = one.flatter.many in
    let more = other.flatter.many in
    let before = one.before in
    let known = c.requires.one_known in
    join_under ps rs c.args.one c.args.other c.root-top.result c.root-other_top.result (flatter_on ps qs rs one.flatter other.flatter)
    one.joined (λ names sound. other.joined names (one.flatter.sound names sound))
    (λ label respects. one.one label (other.flatter.full label respects)) other.one (other.flatter.roots c.root-top.result one.root)
    (omega (arith, many, more, before, known)) (omega arith)
