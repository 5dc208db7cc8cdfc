-- The newest entry's record takes back the last step: `revert` gives the node before it.
use Rattle.std.proofs.Common.{subst, sym}
use Rattle.undo_journal.specs.Past.{Chained}
use Rattle.undo_journal.proofs.Chains.{Chained-unpush}
use Rattle.undo_journal.proofs.past.take_back.Goals as goal

pub revert-requires : goal.revert-requires
revert-requires g c =
    let undoes = g.S.Reversible.undoes in
    let chain = subst (λ ps. Chained undoes c.requires.chained.0 ps c.args.state.now) c.in-Some.ensures.items c.requires.chained.1 in
    let last = Chained-unpush undoes c.requires.chained.0 c.pop.new.self.items c.in-Some.entry c.args.state.now chain in
    (last.0, last.1)

pub returns-in-Ok-clause-chain : goal.returns-in-Ok-clause-chain
returns-in-Ok-clause-chain g c = λ first chain.
    let undoes = g.S.Reversible.undoes in
    let pushed = subst (λ ps. Chained undoes first ps c.args.state.now) c.in-Some.ensures.items chain in
    let last = Chained-unpush undoes first c.pop.new.self.items c.in-Some.entry c.args.state.now pushed in
    subst (λ s. Chained undoes first c.pop.new.self.items s) (sym (c.in-Ok.ensures.ok last.0 last.1)) last.2
