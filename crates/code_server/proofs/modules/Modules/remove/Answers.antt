-- A module with current code keeps that as old code, and one with old code alone goes, by its index.
use Rattle.std.proofs.Common.{◌+◌, IsSome, None, Some, true, false, subst, sym, ap, ◌∙◌}
use Rattle.std.proofs.lemmas.Bool.{true≢false}
use Rattle.code_server.specs.Modules.{Table, removed}
use Rattle.code_server.proofs.Changes.{Demoted-back, Removed-back, Retired-back, codeless, current_of-at, former-taken, held-absent, held-taken, no_current, none_taken, none_unless, post-taken, some_taken}
use Rattle.code_server.proofs.Removing.{removed-absent, removed-gone, removed-kept}
use Rattle.code_server.proofs.Sound.{IsModuleTable-removed, IsModuleTable-retired}
use Rattle.code_server.proofs.Standing.{Stands-index, absent_from_index}
use Rattle.code_server.proofs.modules.Modules.remove.Goals as goal

pub invariant_of-self : goal.invariant_of-self
invariant_of-self g c =
    let t : Table g.row.C.Denot = record { entries = c.self.inside.table.entries; next = c.self.inside.last + 1 } in
    rw c.change_at-gone.ensures.changed (IsModuleTable-retired t c.in-Some.index c.args.post c.self.invariant (sym c.has_current.ensures ∙ c.if-has_current.true))

pub returns-in_default-gone-clause-removed : goal.returns-in_default-gone-clause-removed
returns-in_default-gone-clause-removed g c =
    let t : Table g.row.C.Denot = record { entries = c.self.inside.table.entries; next = c.self.inside.last + 1 } in
    let index = c.in-Some.index in
    let found = sym c.get_index_of.ensures.index ∙ c.in-Some.is in
    let at = Stands-index c.args.name.now t.entries index found in
    let there = current_of-at c.args.name.now t index true at (sym c.has_current.ensures ∙ c.if-has_current.true) in
    ap (λ es. record { entries = es; next = t.next }) c.change_at-gone.ensures.changed ∙ sym (removed-kept c.args.name.now c.args.post t index found there) ∙ ap (removed c.args.name.now c.args.post) c.self.view_is

pub returns-in_default-gone-clause-inverse : goal.returns-in_default-gone-clause-inverse
returns-in_default-gone-clause-inverse g c =
    let t : Table g.row.C.Denot = record { entries = c.self.inside.table.entries; next = c.self.inside.last + 1 } in
    let index = c.in-Some.index in
    let at = Stands-index c.args.name.now t.entries index (sym c.get_index_of.ensures.index ∙ c.in-Some.is) in
    let none = former-taken c.args.name.now t.entries index at c.change_at-gone.result.0 None c.change_at-gone.ensures.gone (none_unless c.change_at-gone.result.0 c.in_default-gone.not-Some) in
    Retired-back c.args.name.now t c.args.self.now index c.change_at-gone.new.table.entries c.args.post at none c.change_at-gone.ensures.changed c.self.invariant c.self.view_is

pub invariant_of-self-then-has_current : goal.invariant_of-self-then-has_current
invariant_of-self-then-has_current g c =
    let t : Table g.row.C.Denot = record { entries = c.self.inside.table.entries; next = c.self.inside.last + 1 } in
    rw c.change_at-gone.ensures.changed (IsModuleTable-retired t c.in-Some.index c.args.post c.self.invariant (sym c.has_current.ensures ∙ c.if-has_current.true))

pub returns-then-has_current-clause-removed : goal.returns-then-has_current-clause-removed
returns-then-has_current-clause-removed g c =
    let t : Table g.row.C.Denot = record { entries = c.self.inside.table.entries; next = c.self.inside.last + 1 } in
    let index = c.in-Some.index in
    let found = sym c.get_index_of.ensures.index ∙ c.in-Some.is in
    let at = Stands-index c.args.name.now t.entries index found in
    let there = current_of-at c.args.name.now t index true at (sym c.has_current.ensures ∙ c.if-has_current.true) in
    ap (λ es. record { entries = es; next = t.next }) c.change_at-gone.ensures.changed ∙ sym (removed-kept c.args.name.now c.args.post t index found there) ∙ ap (removed c.args.name.now c.args.post) c.self.view_is

pub returns-then-has_current-clause-inverse : goal.returns-then-has_current-clause-inverse
returns-then-has_current-clause-inverse g c =
    let t : Table g.row.C.Denot = record { entries = c.self.inside.table.entries; next = c.self.inside.last + 1 } in
    let index = c.in-Some.index in
    let at = Stands-index c.args.name.now t.entries index (sym c.get_index_of.ensures.index ∙ c.in-Some.is) in
    let some = former-taken c.args.name.now t.entries index at c.change_at-gone.result.0 (Some c.in-Some-gone.former) c.change_at-gone.ensures.gone c.in-Some-gone.is in
    let noted = post-taken c.args.name.now t.entries index at c.change_at-gone.result.1 c.change_at-gone.ensures.post in
    Demoted-back c.args.name.now t c.args.self.now index c.change_at-gone.new.table.entries c.args.post c.in-Some-gone.former c.change_at-gone.result.1 at some noted c.change_at-gone.ensures.changed c.self.invariant c.self.view_is

pub unreachable-requires : goal.unreachable-requires
unreachable-requires g c =
    let t : Table g.row.C.Denot = record { entries = c.self.inside.table.entries; next = c.self.inside.last + 1 } in
    let index = c.in-Some.index in
    let at = Stands-index c.args.name.now t.entries index (sym c.get_index_of.ensures.index ∙ c.in-Some.is) in
    let current = no_current c.args.name.now t.entries index at (sym c.has_current.ensures ∙ c.if-has_current.false) in
    codeless c.args.name.now t index at c.self.invariant current (none_taken c.args.name.now t.entries index at c.take_out.result c.take_out.ensures.taken c.in-None.is)

pub invariant_of-self-2 : goal.invariant_of-self-2
invariant_of-self-2 g c =
    let t : Table g.row.C.Denot = record { entries = c.self.inside.table.entries; next = c.self.inside.last + 1 } in
    rw c.take_out.ensures.removed (IsModuleTable-removed t c.in-Some.index c.self.invariant)

pub returns-clause-removed : goal.returns-clause-removed
returns-clause-removed g c =
    let t : Table g.row.C.Denot = record { entries = c.self.inside.table.entries; next = c.self.inside.last + 1 } in
    let index = c.in-Some.index in
    let found = sym c.get_index_of.ensures.index ∙ c.in-Some.is in
    let at = Stands-index c.args.name.now t.entries index found in
    let none = current_of-at c.args.name.now t index false at (sym c.has_current.ensures ∙ c.if-has_current.false) in
    ap (λ es. record { entries = es; next = t.next }) c.take_out.ensures.removed ∙ sym (removed-gone c.args.name.now c.args.post t index c.self.invariant found none) ∙ ap (removed c.args.name.now c.args.post) c.self.view_is

pub returns-clause-inverse : goal.returns-clause-inverse
returns-clause-inverse g c =
    let t : Table g.row.C.Denot = record { entries = c.self.inside.table.entries; next = c.self.inside.last + 1 } in
    let index = c.in-Some.index in
    let at = Stands-index c.args.name.now t.entries index (sym c.get_index_of.ensures.index ∙ c.in-Some.is) in
    let current = no_current c.args.name.now t.entries index at (sym c.has_current.ensures ∙ c.if-has_current.false) in
    let taken = some_taken c.args.name.now t.entries index at c.take_out.result c.in-Some-take_out.name c.in-Some-take_out.former c.in-Some-take_out.noted c.take_out.ensures.taken c.in-Some-take_out.is in
    Removed-back c.args.name.now c.in-Some-take_out.name t c.args.self.now index c.take_out.new.table.entries c.in-Some-take_out.former c.in-Some-take_out.noted at taken.1 current taken.0 taken.2 c.take_out.ensures.removed c.self.invariant c.self.view_is

pub returns-in_default-clause-pieces : goal.returns-in_default-clause-pieces
returns-in_default-clause-pieces g c =
    let t : Table g.row.C.Denot = record { entries = c.self.inside.table.entries; next = c.self.inside.last + 1 } in
    let absent = absent_from_index c.args.name.now t.entries (sym c.get_index_of.ensures.index ∙ none_unless c.get_index_of.result c.in_default.not-Some) in
    held-absent c.args.name.now t c.args.self.now absent c.self.view_is

pub returns-in_default-gone-clause-pieces : goal.returns-in_default-gone-clause-pieces
returns-in_default-gone-clause-pieces g c =
    let t : Table g.row.C.Denot = record { entries = c.self.inside.table.entries; next = c.self.inside.last + 1 } in
    let index = c.in-Some.index in
    let at = Stands-index c.args.name.now t.entries index (sym c.get_index_of.ensures.index ∙ c.in-Some.is) in
    let none = former-taken c.args.name.now t.entries index at c.change_at-gone.result.0 None c.change_at-gone.ensures.gone (none_unless c.change_at-gone.result.0 c.in_default-gone.not-Some) in
    held-taken c.args.name.now t c.args.self.now index at None none c.self.view_is

pub returns-then-has_current-clause-pieces : goal.returns-then-has_current-clause-pieces
returns-then-has_current-clause-pieces g c =
    let t : Table g.row.C.Denot = record { entries = c.self.inside.table.entries; next = c.self.inside.last + 1 } in
    let index = c.in-Some.index in
    let at = Stands-index c.args.name.now t.entries index (sym c.get_index_of.ensures.index ∙ c.in-Some.is) in
    let some = former-taken c.args.name.now t.entries index at c.change_at-gone.result.0 (Some c.in-Some-gone.former) c.change_at-gone.ensures.gone c.in-Some-gone.is in
    held-taken c.args.name.now t c.args.self.now index at (Some c.in-Some-gone.former) some c.self.view_is

pub returns-clause-pieces : goal.returns-clause-pieces
returns-clause-pieces g c =
    let t : Table g.row.C.Denot = record { entries = c.self.inside.table.entries; next = c.self.inside.last + 1 } in
    let index = c.in-Some.index in
    let at = Stands-index c.args.name.now t.entries index (sym c.get_index_of.ensures.index ∙ c.in-Some.is) in
    let taken = some_taken c.args.name.now t.entries index at c.take_out.result c.in-Some-take_out.name c.in-Some-take_out.former c.in-Some-take_out.noted c.take_out.ensures.taken c.in-Some-take_out.is in
    held-taken c.args.name.now t c.args.self.now index at (Some c.in-Some-take_out.former) taken.0 c.self.view_is

pub returns-in_default-gone-clause-old_code : goal.returns-in_default-gone-clause-old_code
returns-in_default-gone-clause-old_code g c =
    let t : Table g.row.C.Denot = record { entries = c.self.inside.table.entries; next = c.self.inside.last + 1 } in
    let index = c.in-Some.index in
    let at = Stands-index c.args.name.now t.entries index (sym c.get_index_of.ensures.index ∙ c.in-Some.is) in
    let none = former-taken c.args.name.now t.entries index at c.change_at-gone.result.0 None c.change_at-gone.ensures.gone (none_unless c.change_at-gone.result.0 c.in_default-gone.not-Some) in
    λ some. true≢false (sym (subst (λ o. IsSome o) (sym (held-taken c.args.name.now t c.args.self.now index at None none c.self.view_is)) some))
