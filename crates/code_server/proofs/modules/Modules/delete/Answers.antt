-- What was current is old, and becomes current again.
use Rattle.std.proofs.Common.{◌≡◌, ◌+◌, None, is_some, sym, ap, ◌∙◌}
use Rattle.code_server.specs.Modules.{Table, delete_refusal}
use Rattle.code_server.proofs.Changes.{IsDeletable-unrefused, Retired-back, current_of-slots, current_at-slots, none_unless, old_of-slots}
use Rattle.code_server.proofs.Sound.{IsModuleTable-retired}
use Rattle.code_server.proofs.Standing.{Stands-index}
use Rattle.code_server.proofs.modules.Modules.delete.Goals as goal

pub invariant_of-self : goal.invariant_of-self
invariant_of-self g c =
    let t : Table g.row.C.Denot = record { entries = c.self.inside.table.entries; next = c.self.inside.last + 1 } in
    let index = c.in-Some-get_index_of.index in
    let unrefused : delete_refusal c.args.name.now t ≡ None = ap (delete_refusal c.args.name.now) c.self.view_is ∙ sym c.delete_refusal.ensures ∙ none_unless c.delete_refusal.result c.in_default.not-Some in
    let able = IsDeletable-unrefused c.args.name.now t unrefused in
    let at = Stands-index c.args.name.now t.entries index (sym c.get_index_of.ensures.index ∙ c.in-Some-get_index_of.is) in
    let there = ap is_some (current_at-slots c.args.name.now t.entries index at ∙ sym (current_of-slots c.args.name.now t index at)) ∙ able.has_current in
    rw c.change_at.ensures.changed (IsModuleTable-retired t index None c.self.invariant there)

pub returns-in-Some-get_index_of-clause-inverse : goal.returns-in-Some-get_index_of-clause-inverse
returns-in-Some-get_index_of-clause-inverse g c =
    let t : Table g.row.C.Denot = record { entries = c.self.inside.table.entries; next = c.self.inside.last + 1 } in
    let index = c.in-Some-get_index_of.index in
    let unrefused : delete_refusal c.args.name.now t ≡ None = ap (delete_refusal c.args.name.now) c.self.view_is ∙ sym c.delete_refusal.ensures ∙ none_unless c.delete_refusal.result c.in_default.not-Some in
    let able = IsDeletable-unrefused c.args.name.now t unrefused in
    let at = Stands-index c.args.name.now t.entries index (sym c.get_index_of.ensures.index ∙ c.in-Some-get_index_of.is) in
    Retired-back c.args.name.now t c.args.self.now index c.change_at.new.table.entries None at (sym (old_of-slots c.args.name.now t index at) ∙ able.no_old) c.change_at.ensures.changed c.self.invariant c.self.view_is
