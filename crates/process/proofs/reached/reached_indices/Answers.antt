-- By what is known while indices wait.
use Rattle.std.proofs.Common.{◌-◌, ◌++◌, [], take, ap, refl, ◌∙◌}
use Rattle.process.proofs.Finding.{Explored-first, Explored-next, Explored-last, falls}
use Rattle.process.proofs.reached.reached_indices.Goals as goal

pub loop-index-init : goal.loop-index-init
loop-index-init c =
    Explored-first c.args.modules.now c.args.from.now _ c.add_named.new.self c.new.ensures.empty c.new-2.ensures.items c.new.ensures.ordered c.in_ok-add_named.ensures.grows c.in_ok-add_named.ensures.found

pub loop-index-smaller : goal.loop-index-smaller
loop-index-smaller c =
    falls c.args.modules.now c.args.from.now c.loop-index.found _ c.follow.new.self c.in-Some.index refl c.in-Some.ensures.items c.in_ok-follow.ensures.grows c.in_ok-follow.ensures.found c.loop-index.invariant

pub loop-index-preserved : goal.loop-index-preserved
loop-index-preserved c =
    Explored-next c.args.modules.now c.args.from.now c.loop-index.found _ c.follow.new.self c.in-Some.index refl c.in-Some.ensures.items c.in_ok-follow.ensures.grows c.in_ok-follow.ensures.found c.loop-index.invariant

pub returns : goal.returns
returns c =
    let items = c.loop-index.found.waiting.items in
    let none = c.in_default.ensures.rest ∙ ap (λ n. take (n - 1) items) c.in_default.ensures.cases.0 in
    Explored-last c.args.modules.now c.args.from.now c.loop-index.found (c.in_default.ensures.items ∙ ap (λ l. l ++ []) none) c.loop-index.invariant
