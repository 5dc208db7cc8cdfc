-- What it stands in place of has its name.
use Rattle.std.proofs.Common.{◌≡◌, ◌∷◌, ◌++◌, ◌∙◌, List, [], Some, ap, sym, subst, slice_set}
use Rattle.std.proofs.lemmas.Slice.Eq.{bytes_eq-Decides}
use Rattle.app_table.proofs.Options.{some_is}
use Rattle.app_table.proofs.Replacing.{get_below, gives_added, gives_replaced}
use Rattle.app_table.proofs.Spots.{by_name, got}
use Rattle.app_table.proofs.Writes.{changed_from_write}
use Rattle.app_table.specs.Applications.{Application, index_of}
use Rattle.app_table.specs.Changes.{replaced_as, replaced_at, spec_set_at, with_spec}
use Rattle.app_table.specs.Undo.{GivesBack}
use Rattle.app_table.specs.declared.specs.Replaced.{Replaced}
use Rattle.otp_files.specs.declared.app.AppSpec.{AppSpec}
use Rattle.app_table.proofs.table.specs.set_spec.Goals as goal

pub returns-in-Some-clause-set : goal.returns-in-Some-clause-set
returns-in-Some-clause-set c =
    let apps = c.args.list.now.items in
    let index = c.in-Some.index in
    let e = ap (λ (l : List Application). index_of c.args.spec.name l) (sym c.as_slice.ensures.value) ∙ sym c.index_in.ensures ∙ c.in-Some.is in
    let (a, at, named) = by_name c.args.spec.name apps index e in
    subst (λ o. slice_set c.args.list.now.items c.in-Some.index c.swap_spec.new.self ≡ spec_set_at o c.args.spec c.args.list.now.items) (sym e) (changed_from_write (with_spec c.args.spec) apps index c.index_mut.result.now c.swap_spec.new.self (get_below apps index a at) c.index_mut.ensures.value c.swap_spec.ensures.set)

pub returns-in-Some-clause-former : goal.returns-in-Some-clause-former
returns-in-Some-clause-former c =
    let apps = c.args.list.now.items in
    let index = c.in-Some.index in
    let rs = c.args.replaced.now.items in
    let x = c.index_mut.result.now in
    let e = ap (λ (l : List Application). index_of c.args.spec.name l) (sym c.as_slice.ensures.value) ∙ sym c.index_in.ensures ∙ c.in-Some.is in
    let (a, at, named) = by_name c.args.spec.name apps index e in
    let there = got apps index x (get_below apps index a at) ∙ ap Some (sym c.index_mut.ensures.value) in
    let noted = c.push_reserved.ensures.items ∙ ap (λ (s : AppSpec). rs ++ (let r : Replaced = record { index = index; spec = s } in r) ∷ []) c.swap_spec.ensures.left in
    noted ∙ ap (λ (l : List Replaced). rs ++ l) (sym (ap (λ o. replaced_at o apps) e ∙ ap (replaced_as index) there))

pub returns-in-Some-clause-back : goal.returns-in-Some-clause-back
returns-in-Some-clause-back c before g =
    let apps = c.args.list.now.items in
    let index = c.in-Some.index in
    let rs = c.args.replaced.now.items in
    let x = c.index_mut.result.now in
    let e = ap (λ (l : List Application). index_of c.args.spec.name l) (sym c.as_slice.ensures.value) ∙ sym c.index_in.ensures ∙ c.in-Some.is in
    let (a, at, named) = by_name c.args.spec.name apps index e in
    let within = get_below apps index a at in
    let there = got apps index x within ∙ ap Some (sym c.index_mut.ensures.value) in
    let same : a ≡ x = some_is (sym at ∙ there) in
    let name : x.spec.name ≡ c.args.spec.name = ap (λ (b : Application). b.spec.name) (sym same) ∙ (bytes_eq-Decides a.spec.name c.args.spec.name).0 named in
    let write = changed_from_write (with_spec c.args.spec) apps index x c.swap_spec.new.self within c.index_mut.ensures.value c.swap_spec.ensures.set in
    let noted = c.push_reserved.ensures.items ∙ ap (λ (s : AppSpec). rs ++ (let r : Replaced = record { index = index; spec = s } in r) ∷ []) c.swap_spec.ensures.left in
    subst (λ (l : List Replaced). GivesBack before l (slice_set c.args.list.now.items c.in-Some.index c.swap_spec.new.self)) (sym noted) (
    subst (λ (l : List Application). GivesBack before (rs ++ (let r : Replaced = record { index = index; spec = x.spec } in r) ∷ []) l) (sym write) (gives_replaced before rs apps index x c.args.spec there name g)
    )

pub returns-in-None-clause-back : goal.returns-in-None-clause-back
returns-in-None-clause-back c before g =
    subst (λ (l : List Application). GivesBack before c.args.replaced.now.items l) (sym c.push_reserved-in-None.ensures.items) (gives_added before c.args.replaced.now.items c.args.list.now.items c.new.result g)
