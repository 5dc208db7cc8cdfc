-- The appup stands at the index of its application.
use Rattle.std.proofs.Common.{sym, ◌∙◌}
use Rattle.relup_make.proofs.Lookups.{beside_first, beside_nowhere}
use Rattle.relup_make.proofs.way.Way.appup.Goals as goal

pub returns-in-Some : goal.returns-in-Some
returns-in-Some c =
    c.appup_at.ensures ∙ beside_first c.in-Some.index c.args.name.now c.args.self.now.new.now.whole.now.apps c.args.self.now.appups.now (sym c.in-Some.ensures)

pub returns-in-None : goal.returns-in-None
returns-in-None c =
    sym (beside_nowhere 0 c.args.name.now c.args.self.now.new.now.whole.now.apps c.args.self.now.appups.now (sym c.in-None.ensures))
