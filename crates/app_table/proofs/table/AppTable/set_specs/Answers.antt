-- What was replaced gives back the applications that there were.
use Rattle.std.proofs.Common.{◌≡◌, ◌-◌, ◌∙◌, List, [], ap, sym, subst, arith, length}
use Rattle.std.specs.Prelude.{All}
use Rattle.app_table.proofs.Replacing.{gives_all, gives_itself}
use Rattle.app_table.specs.Applications.{Application}
use Rattle.app_table.specs.Changes.{put_back}
use Rattle.app_table.specs.Undo.{GivesBack, IsOfIndex}
use Rattle.app_table.specs.declared.specs.FormerSpecs.{FormerSpecs}
use Rattle.app_table.specs.declared.specs.Replaced.{Replaced}
use Rattle.app_table.proofs.table.AppTable.set_specs.Goals as goal

pub returns-clause-inverse : goal.returns-clause-inverse
returns-clause-inverse c =
    let now : List Application = c.args.self.now in
    let before = c.reserve.ensures.items ∙ c.self.view_is in
    let start = subst (λ (l : List Replaced). GivesBack now l c.reserve.new.self.items) (sym c.in_ok-replaced.ensures.items) (subst (λ (l : List Application). GivesBack now [] l) (sym before) (gives_itself now)) in
    let g = c.set_each.ensures.back now start in
    let after = ap length c.as_slice.ensures.value in
    let first = ap length (c.as_slice-before.ensures.value ∙ before) in
    let n : length c.as_slice.result.now - length c.as_slice-before.result.now ≡ length c.set_each.new.list.items - length c.args.self.now = omega (arith, after, first) in
    subst (λ (l : List Replaced). put_back (let f : FormerSpecs = record { replaced = l; added = length c.as_slice.result.now - length c.as_slice-before.result.now } in f) c.set_each.new.list.items ≡ c.args.self.now) (sym c.new.ensures) (gives_all now c.set_each.new.replaced.items c.set_each.new.list.items (length c.as_slice.result.now - length c.as_slice-before.result.now) n g)

pub returns-clause-fits : goal.returns-clause-fits
returns-clause-fits c =
    let now : List Application = c.args.self.now in
    let before = c.reserve.ensures.items ∙ c.self.view_is in
    let start = subst (λ (l : List Replaced). GivesBack now l c.reserve.new.self.items) (sym c.in_ok-replaced.ensures.items) (subst (λ (l : List Application). GivesBack now [] l) (sym before) (gives_itself now)) in
    let g = c.set_each.ensures.back now start in
    let after = ap length c.as_slice.ensures.value in (
      omega (arith, after),
      subst (λ (l : List Replaced). All (λ r. IsOfIndex r c.set_each.new.list.items) l) (sym c.new.ensures) g.indices,
    )
