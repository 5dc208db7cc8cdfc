-- The new code is on top, or its module is last; the undo takes it away.
use Rattle.std.proofs.Common.{◌≡◌, ◌+◌, None, sym, ap, ◌∙◌, refl}
use Rattle.code_server.specs.Modules.{Table, load_refusal}
use Rattle.code_server.proofs.Changes.{Added-back, IsLoadable-unrefused, Stacked-back, none_unless, old_of-slots}
use Rattle.code_server.proofs.Sound.{IsModuleTable-added, IsModuleTable-stacked}
use Rattle.code_server.proofs.Standing.{Stands-index, absent_from_index}
use Rattle.code_server.proofs.modules.Modules.load.Goals as goal

pub invariant_of-self : goal.invariant_of-self
invariant_of-self g c =
    let t : Table g.row.C.Denot = record { entries = c.self.inside.table.entries; next = c.self.inside.last + 1 } in
    let unrefused : load_refusal c.args.name.now t ≡ None = ap (load_refusal c.args.name.now) c.self.view_is ∙ sym c.load_refusal.ensures ∙ none_unless c.load_refusal.result c.in_default.not-Some in
    let able = IsLoadable-unrefused c.args.name.now t c.self.invariant unrefused in
    rw c.change_at.ensures.changed (IsModuleTable-stacked t c.in-Some-get_index_of.index None _ c.self.invariant refl able.serial)

pub invariant_of-self-in-None : goal.invariant_of-self-in-None
invariant_of-self-in-None g c =
    let t : Table g.row.C.Denot = record { entries = c.self.inside.table.entries; next = c.self.inside.last + 1 } in
    let unrefused : load_refusal c.args.name.now t ≡ None = ap (load_refusal c.args.name.now) c.self.view_is ∙ sym c.load_refusal.ensures ∙ none_unless c.load_refusal.result c.in_default.not-Some in
    let able = IsLoadable-unrefused c.args.name.now t c.self.invariant unrefused in
    let absent = absent_from_index c.args.name.now t.entries (sym c.get_index_of.ensures.index ∙ c.in-None.is) in
    rw c.in_ok-add-in-None.ensures.added (IsModuleTable-added t c.args.name.now _ c.self.invariant absent refl able.serial)

pub returns-in-Some-get_index_of-clause-inverse : goal.returns-in-Some-get_index_of-clause-inverse
returns-in-Some-get_index_of-clause-inverse g c =
    let t : Table g.row.C.Denot = record { entries = c.self.inside.table.entries; next = c.self.inside.last + 1 } in
    let index = c.in-Some-get_index_of.index in
    let unrefused : load_refusal c.args.name.now t ≡ None = ap (load_refusal c.args.name.now) c.self.view_is ∙ sym c.load_refusal.ensures ∙ none_unless c.load_refusal.result c.in_default.not-Some in
    let able = IsLoadable-unrefused c.args.name.now t c.self.invariant unrefused in
    let at = Stands-index c.args.name.now t.entries index (sym c.get_index_of.ensures.index ∙ c.in-Some-get_index_of.is) in
    Stacked-back c.args.name.now t c.args.self.now index c.change_at.new.table.entries None _ at (sym (old_of-slots c.args.name.now t index at) ∙ able.no_old) c.change_at.ensures.changed c.self.invariant c.self.view_is

pub returns-in_ok-add-in-None-clause-inverse : goal.returns-in_ok-add-in-None-clause-inverse
returns-in_ok-add-in-None-clause-inverse g c =
    let t : Table g.row.C.Denot = record { entries = c.self.inside.table.entries; next = c.self.inside.last + 1 } in
    Added-back t c.args.self.now _ c.add.new.table.entries c.in_ok-add-in-None.ensures.added c.self.invariant c.self.view_is
