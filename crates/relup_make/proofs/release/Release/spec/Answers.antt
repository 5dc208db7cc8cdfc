-- The index of a name is that of the first application of that name.
use Rattle.std.proofs.Common.{sym, ap, ◌∙◌}
use Rattle.std.specs.List.{slice_get}
use Rattle.relup_make.proofs.Lookups.{found_first, found_nowhere, lent_at}
use Rattle.relup_make.proofs.release.Release.spec.Goals as goal

pub returns-in-Some : goal.returns-in-Some
returns-in-Some c =
    let apps = c.args.self.now.whole.now.apps in
    lent_at c.as_slice.result.now c.in-Some.index c.get.result c.get.ensures.lookup ∙ ap (λ items. slice_get items c.in-Some.index) c.as_slice.ensures ∙ found_first (λ app. app.name) c.in-Some.index c.args.name.now apps (sym c.in-Some.ensures)

pub returns-in-None : goal.returns-in-None
returns-in-None c =
    sym (found_nowhere (λ app. app.name) 0 c.args.name.now c.args.self.now.whole.now.apps (sym c.in-None.ensures))
