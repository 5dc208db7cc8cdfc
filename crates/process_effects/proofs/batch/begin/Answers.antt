-- The acts without their replies, with the replies that are left to give then, make what the acts make in order.
use Rattle.std.proofs.Common.{◌++◌, List, subst}
use Rattle.erl_semantics.specs.declared.acts.Act.{Act}
use Rattle.process_effects.proofs.Beginning.{more_under_way}
use Rattle.process_effects.specs.Begins.{acts_begun, begun_told, IsUnderWay}
use Rattle.process_effects.proofs.batch.begin.Goals as goal

pub returns-clause-ok : goal.returns-clause-ok
returns-clause-ok c =
    λ before after told way.
    let made = c.in_ok-make_all.ensures in
    let more = c.make_all.new in
    let name = c.args.name in
    let code = c.args.code.now in
    subst (λ (acts : List Act). IsUnderWay more.changes.items more.answers.items before more.store (acts_begun name code acts after) (told ++ begun_told name code acts after)) c.into_vec-acts.ensures
    (more_under_way name code c.into_vec-acts.result.items c.args.batch.now.changes.items more.changes.items c.args.batch.now.answers.items more.answers.items before c.args.store.now more.store after told way made.ok made.answers made.back made.fits)
