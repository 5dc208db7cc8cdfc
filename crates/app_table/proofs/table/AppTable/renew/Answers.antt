-- The application at the index has its children specified anew, and has them back.
use Rattle.std.proofs.Common.{◌<◌, ◌∙◌, List, Some, ap, arith, length, refl, slice_set, sym}
use Rattle.std.specs.Prelude.{slice_get}
use Rattle.values.proofs.Edits.{slice_get-changed_at}
use Rattle.values.specs.Edits.{changed_at}
use Rattle.app_table.proofs.Backs.{changed_back}
use Rattle.app_table.proofs.Spots.{got}
use Rattle.app_table.proofs.Writes.{changed_from_write}
use Rattle.app_table.specs.Applications.{Application}
use Rattle.app_table.proofs.Taken.{lost_at}
use Rattle.app_table.specs.Renewing.{with_renewed, with_unrenewed}
use Rattle.app_table.proofs.table.AppTable.renew.Goals as goal

pub returns-clause-renewed : goal.returns-clause-renewed
returns-clause-renewed c =
    let xs = c.self.inside.list.items in
    let within : c.args.index < length xs = omega (arith, ap (λ (l : List Application). length l) c.self.view_is, c.requires) in
    changed_from_write (with_renewed c.args.specs) xs c.args.index c.index_mut.result.now c.renew.new.self within c.index_mut.ensures.value c.in_ok-edits.ensures.renewed
    ∙ ap (λ (l : List Application). changed_at (with_renewed c.args.specs) l c.args.index) c.self.view_is

pub returns-clause-inverse : goal.returns-clause-inverse
returns-clause-inverse c =
    let xs = c.self.inside.list.items in
    let within : c.args.index < length xs = omega (arith, ap (λ (l : List Application). length l) c.self.view_is, c.requires) in
    let write = changed_from_write (with_renewed c.args.specs) xs c.args.index c.index_mut.result.now c.renew.new.self within c.index_mut.ensures.value c.in_ok-edits.ensures.renewed in
    let stands = got xs c.args.index c.index_mut.result.now within ∙ ap Some (sym c.index_mut.ensures.value) in
    let back = ap (with_unrenewed c.in_ok-edits.edits) (sym c.in_ok-edits.ensures.renewed) ∙ c.in_ok-edits.ensures.back in
    ap (λ (l : List Application). changed_at (with_unrenewed c.in_ok-edits.edits) l c.args.index) write
    ∙ changed_back (with_renewed c.args.specs) (with_unrenewed c.in_ok-edits.edits) xs c.args.index c.index_mut.result.now stands back
    ∙ c.self.view_is

pub returns-clause-renewal : goal.returns-clause-renewal
returns-clause-renewal c = (c.in_ok-edits.edits, refl)

pub returns-clause-pieces : goal.returns-clause-pieces
returns-clause-pieces c =
    let xs = c.self.inside.list.items in
    let within : c.args.index < length xs = omega (arith, ap (λ (l : List Application). length l) c.self.view_is, c.requires) in
    let write = changed_from_write (with_renewed c.args.specs) xs c.args.index c.index_mut.result.now c.renew.new.self within c.index_mut.ensures.value c.in_ok-edits.ensures.renewed in
    let stands = got xs c.args.index c.index_mut.result.now within ∙ ap Some (sym c.index_mut.ensures.value) in
    let before = ap (λ (l : List Application). slice_get l c.args.index) (sym c.self.view_is) ∙ stands in
    let there = ap (λ (l : List Application). slice_get l c.args.index) write ∙ slice_get-changed_at (with_renewed c.args.specs) xs c.args.index c.index_mut.result.now stands ∙ ap Some (sym c.in_ok-edits.ensures.renewed) in
    lost_at c.args.index c.args.specs c.in_ok-edits.edits c.args.self.now (slice_set xs c.args.index c.renew.new.self) c.index_mut.result.now c.renew.new.self before there c.in_ok-edits.ensures.renewed c.in_ok-edits.ensures.edits
