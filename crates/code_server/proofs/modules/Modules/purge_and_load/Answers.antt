-- What was old is gone, and the new code is on top, or its module last.
use Rattle.std.proofs.Common.{◌+◌, ◌^◌, ◌<◌, IsSome, None, Some, true, false, refl, subst, sym, ap, ◌∙◌, arith}
use Rattle.std.proofs.lemmas.Bool.{true≢false}
use Rattle.code_server.specs.Modules.{Table, loaded, purged}
use Rattle.code_server.proofs.Changes.{Added-back, Replaced-back, Stacked-back, codeless, current_of-at, former-taken, held-absent, held-taken, no_current, none_unless, post-taken}
use Rattle.code_server.proofs.Reloads.{IsModuleTable-reloaded, Moved-back, former-last, loaded-gone, loaded-kept, post-last, refused-end, refused-never, stacked-last}
use Rattle.code_server.proofs.Sound.{IsModuleTable-added, IsModuleTable-stacked}
use Rattle.code_server.proofs.Standing.{Stands-index, absent_from_index}
use Rattle.code_server.proofs.modules.Modules.purge_and_load.Goals as goal

pub returns-then-self-clause-refused : goal.returns-then-self-clause-refused
returns-then-self-clause-refused g c =
    let t : Table g.row.C.Denot = record { entries = c.self.inside.table.entries; next = c.self.inside.last + 1 } in
    refused-end c.args.name.now t c.args.self.now c.self.invariant (omega (arith, c.if-self.true)) c.self.view_is

pub invariant_of-self-in_default : goal.invariant_of-self-in_default
invariant_of-self-in_default g c =
    let t : Table g.row.C.Denot = record { entries = c.self.inside.table.entries; next = c.self.inside.last + 1 } in
    let below : c.self.inside.last + 1 < 2 ^ 64 = omega (arith, c.self.invariant.counted.1, c.if-self.false) in
    let absent = absent_from_index c.args.name.now t.entries (sym c.get_index_of.ensures.index ∙ none_unless c.get_index_of.result c.in_default.not-Some) in
    rw c.in_ok-add.ensures.added (IsModuleTable-added t c.args.name.now _ c.self.invariant absent refl below)

pub returns-in_default-clause-inverse : goal.returns-in_default-clause-inverse
returns-in_default-clause-inverse g c =
    let t : Table g.row.C.Denot = record { entries = c.self.inside.table.entries; next = c.self.inside.last + 1 } in
    Added-back t c.args.self.now _ c.add.new.table.entries c.in_ok-add.ensures.added c.self.invariant c.self.view_is

pub invariant_of-self-in_default-gone : goal.invariant_of-self-in_default-gone
invariant_of-self-in_default-gone g c =
    let t : Table g.row.C.Denot = record { entries = c.self.inside.table.entries; next = c.self.inside.last + 1 } in
    let below : c.self.inside.last + 1 < 2 ^ 64 = omega (arith, c.self.invariant.counted.1, c.if-self.false) in
    rw c.change_at-gone.ensures.changed (IsModuleTable-stacked t c.in-Some.index c.args.post _ c.self.invariant refl below)

pub returns-in_default-gone-clause-ok : goal.returns-in_default-gone-clause-ok
returns-in_default-gone-clause-ok g c =
    let t : Table g.row.C.Denot = record { entries = c.self.inside.table.entries; next = c.self.inside.last + 1 } in
    let below : c.self.inside.last + 1 < 2 ^ 64 = omega (arith, c.self.invariant.counted.1, c.if-self.false) in
    refused-never c.args.name.now t c.args.self.now c.self.invariant below c.self.view_is

pub returns-in_default-gone-clause-loaded : goal.returns-in_default-gone-clause-loaded
returns-in_default-gone-clause-loaded g c =
    let t : Table g.row.C.Denot = record { entries = c.self.inside.table.entries; next = c.self.inside.last + 1 } in
    let index = c.in-Some.index in
    let found = sym c.get_index_of.ensures.index ∙ c.in-Some.is in
    let at = Stands-index c.args.name.now t.entries index found in
    let has = current_of-at c.args.name.now t index true at (sym c.has_current.ensures ∙ c.if-has_current.true) in
    ap (λ es. record { entries = es; next = t.next + 1 }) c.change_at-gone.ensures.changed ∙ sym (loaded-kept c.args.name.now c.args.code c.args.post t index found has) ∙ ap (λ u. loaded c.args.name.now c.args.code c.args.post (purged c.args.name.now u)) c.self.view_is

pub returns-in_default-gone-clause-inverse : goal.returns-in_default-gone-clause-inverse
returns-in_default-gone-clause-inverse g c =
    let t : Table g.row.C.Denot = record { entries = c.self.inside.table.entries; next = c.self.inside.last + 1 } in
    let index = c.in-Some.index in
    let found = sym c.get_index_of.ensures.index ∙ c.in-Some.is in
    let at = Stands-index c.args.name.now t.entries index found in
    let former = former-taken c.args.name.now t.entries index at c.change_at-gone.result.0 None c.change_at-gone.ensures.gone (none_unless c.change_at-gone.result.0 c.in_default-gone.not-Some) in
    Stacked-back c.args.name.now t c.args.self.now index c.change_at-gone.new.table.entries c.args.post _ at former c.change_at-gone.ensures.changed c.self.invariant c.self.view_is

pub invariant_of-self-then-has_current : goal.invariant_of-self-then-has_current
invariant_of-self-then-has_current g c =
    let t : Table g.row.C.Denot = record { entries = c.self.inside.table.entries; next = c.self.inside.last + 1 } in
    let below : c.self.inside.last + 1 < 2 ^ 64 = omega (arith, c.self.invariant.counted.1, c.if-self.false) in
    rw c.change_at-gone.ensures.changed (IsModuleTable-stacked t c.in-Some.index c.args.post _ c.self.invariant refl below)

pub returns-then-has_current-clause-ok : goal.returns-then-has_current-clause-ok
returns-then-has_current-clause-ok g c =
    let t : Table g.row.C.Denot = record { entries = c.self.inside.table.entries; next = c.self.inside.last + 1 } in
    let below : c.self.inside.last + 1 < 2 ^ 64 = omega (arith, c.self.invariant.counted.1, c.if-self.false) in
    refused-never c.args.name.now t c.args.self.now c.self.invariant below c.self.view_is

pub returns-then-has_current-clause-loaded : goal.returns-then-has_current-clause-loaded
returns-then-has_current-clause-loaded g c =
    let t : Table g.row.C.Denot = record { entries = c.self.inside.table.entries; next = c.self.inside.last + 1 } in
    let index = c.in-Some.index in
    let found = sym c.get_index_of.ensures.index ∙ c.in-Some.is in
    let at = Stands-index c.args.name.now t.entries index found in
    let has = current_of-at c.args.name.now t index true at (sym c.has_current.ensures ∙ c.if-has_current.true) in
    ap (λ es. record { entries = es; next = t.next + 1 }) c.change_at-gone.ensures.changed ∙ sym (loaded-kept c.args.name.now c.args.code c.args.post t index found has) ∙ ap (λ u. loaded c.args.name.now c.args.code c.args.post (purged c.args.name.now u)) c.self.view_is

pub returns-then-has_current-clause-inverse : goal.returns-then-has_current-clause-inverse
returns-then-has_current-clause-inverse g c =
    let t : Table g.row.C.Denot = record { entries = c.self.inside.table.entries; next = c.self.inside.last + 1 } in
    let index = c.in-Some.index in
    let found = sym c.get_index_of.ensures.index ∙ c.in-Some.is in
    let at = Stands-index c.args.name.now t.entries index found in
    let former = former-taken c.args.name.now t.entries index at c.change_at-gone.result.0 (Some c.in-Some-gone.former) c.change_at-gone.ensures.gone c.in-Some-gone.is in
    let noted = post-taken c.args.name.now t.entries index at c.change_at-gone.result.1 c.change_at-gone.ensures.post in
    Replaced-back c.args.name.now t c.args.self.now index c.change_at-gone.new.table.entries c.args.post _ c.in-Some-gone.former c.change_at-gone.result.1 at former noted c.change_at-gone.ensures.changed c.self.invariant c.self.view_is

pub unreachable-requires : goal.unreachable-requires
unreachable-requires g c =
    let t : Table g.row.C.Denot = record { entries = c.self.inside.table.entries; next = c.self.inside.last + 1 } in
    let index = c.in-Some.index in
    let found = sym c.get_index_of.ensures.index ∙ c.in-Some.is in
    let at = Stands-index c.args.name.now t.entries index found in
    let none = no_current c.args.name.now t.entries index at (sym c.has_current.ensures ∙ c.if-has_current.false) in
    codeless c.args.name.now t index at c.self.invariant none (sym (former-last c.args.name.now t.entries index at) ∙ sym c.stack_last-old.ensures.former ∙ c.in-None.is)

pub invariant_of-self-2 : goal.invariant_of-self-2
invariant_of-self-2 g c =
    let t : Table g.row.C.Denot = record { entries = c.self.inside.table.entries; next = c.self.inside.last + 1 } in
    let below : c.self.inside.last + 1 < 2 ^ 64 = omega (arith, c.self.invariant.counted.1, c.if-self.false) in
    let index = c.in-Some.index in
    let found = sym c.get_index_of.ensures.index ∙ c.in-Some.is in
    let at = Stands-index c.args.name.now t.entries index found in
    let none = no_current c.args.name.now t.entries index at (sym c.has_current.ensures ∙ c.if-has_current.false) in
    rw (c.stack_last-old.ensures.stacked ∙ stacked-last c.args.name.now t.entries index _ at none) (IsModuleTable-reloaded c.args.name.now t index _ c.self.invariant at refl below)

pub returns-clause-ok : goal.returns-clause-ok
returns-clause-ok g c =
    let t : Table g.row.C.Denot = record { entries = c.self.inside.table.entries; next = c.self.inside.last + 1 } in
    let below : c.self.inside.last + 1 < 2 ^ 64 = omega (arith, c.self.invariant.counted.1, c.if-self.false) in
    refused-never c.args.name.now t c.args.self.now c.self.invariant below c.self.view_is

pub returns-clause-loaded : goal.returns-clause-loaded
returns-clause-loaded g c =
    let t : Table g.row.C.Denot = record { entries = c.self.inside.table.entries; next = c.self.inside.last + 1 } in
    let index = c.in-Some.index in
    let found = sym c.get_index_of.ensures.index ∙ c.in-Some.is in
    let at = Stands-index c.args.name.now t.entries index found in
    let has = current_of-at c.args.name.now t index false at (sym c.has_current.ensures ∙ c.if-has_current.false) in
    let none = no_current c.args.name.now t.entries index at (sym c.has_current.ensures ∙ c.if-has_current.false) in
    let entries = c.stack_last-old.ensures.stacked ∙ stacked-last c.args.name.now t.entries index _ at none in
    ap (λ es. record { entries = es; next = t.next + 1 }) entries ∙ sym (loaded-gone c.args.name.now c.args.code c.args.post t index c.self.invariant found has) ∙ ap (λ u. loaded c.args.name.now c.args.code c.args.post (purged c.args.name.now u)) c.self.view_is

pub returns-clause-inverse : goal.returns-clause-inverse
returns-clause-inverse g c =
    let t : Table g.row.C.Denot = record { entries = c.self.inside.table.entries; next = c.self.inside.last + 1 } in
    let index = c.in-Some.index in
    let found = sym c.get_index_of.ensures.index ∙ c.in-Some.is in
    let at = Stands-index c.args.name.now t.entries index found in
    let none = no_current c.args.name.now t.entries index at (sym c.has_current.ensures ∙ c.if-has_current.false) in
    let former = sym (former-last c.args.name.now t.entries index at) ∙ sym c.stack_last-old.ensures.former ∙ c.in-Some-old.is in
    let entries = c.stack_last-old.ensures.stacked ∙ stacked-last c.args.name.now t.entries index _ at none in
    let noted = sym (post-last c.args.name.now t.entries index at) ∙ sym c.stack_last-old.ensures.post in
    Moved-back c.args.name.now t c.args.self.now index c.stack_last-old.new.table.entries _ c.in-Some-old.former c.stack_last-old.result.1 at none former noted entries c.self.invariant c.self.view_is

pub returns-in_default-clause-pieces : goal.returns-in_default-clause-pieces
returns-in_default-clause-pieces g c =
    let t : Table g.row.C.Denot = record { entries = c.self.inside.table.entries; next = c.self.inside.last + 1 } in
    let absent = absent_from_index c.args.name.now t.entries (sym c.get_index_of.ensures.index ∙ none_unless c.get_index_of.result c.in_default.not-Some) in
    held-absent c.args.name.now t c.args.self.now absent c.self.view_is

pub returns-in_default-gone-clause-pieces : goal.returns-in_default-gone-clause-pieces
returns-in_default-gone-clause-pieces g c =
    let t : Table g.row.C.Denot = record { entries = c.self.inside.table.entries; next = c.self.inside.last + 1 } in
    let index = c.in-Some.index in
    let at = Stands-index c.args.name.now t.entries index (sym c.get_index_of.ensures.index ∙ c.in-Some.is) in
    let none = former-taken c.args.name.now t.entries index at c.change_at-gone.result.0 None c.change_at-gone.ensures.gone (none_unless c.change_at-gone.result.0 c.in_default-gone.not-Some) in
    held-taken c.args.name.now t c.args.self.now index at None none c.self.view_is

pub returns-then-has_current-clause-pieces : goal.returns-then-has_current-clause-pieces
returns-then-has_current-clause-pieces g c =
    let t : Table g.row.C.Denot = record { entries = c.self.inside.table.entries; next = c.self.inside.last + 1 } in
    let index = c.in-Some.index in
    let at = Stands-index c.args.name.now t.entries index (sym c.get_index_of.ensures.index ∙ c.in-Some.is) in
    let some = former-taken c.args.name.now t.entries index at c.change_at-gone.result.0 (Some c.in-Some-gone.former) c.change_at-gone.ensures.gone c.in-Some-gone.is in
    held-taken c.args.name.now t c.args.self.now index at (Some c.in-Some-gone.former) some c.self.view_is

pub returns-clause-pieces : goal.returns-clause-pieces
returns-clause-pieces g c =
    let t : Table g.row.C.Denot = record { entries = c.self.inside.table.entries; next = c.self.inside.last + 1 } in
    let index = c.in-Some.index in
    let at = Stands-index c.args.name.now t.entries index (sym c.get_index_of.ensures.index ∙ c.in-Some.is) in
    let former = sym (former-last c.args.name.now t.entries index at) ∙ sym c.stack_last-old.ensures.former ∙ c.in-Some-old.is in
    held-taken c.args.name.now t c.args.self.now index at (Some c.in-Some-old.former) former c.self.view_is

pub returns-in_default-gone-clause-old_code : goal.returns-in_default-gone-clause-old_code
returns-in_default-gone-clause-old_code g c =
    let t : Table g.row.C.Denot = record { entries = c.self.inside.table.entries; next = c.self.inside.last + 1 } in
    let index = c.in-Some.index in
    let at = Stands-index c.args.name.now t.entries index (sym c.get_index_of.ensures.index ∙ c.in-Some.is) in
    let none = former-taken c.args.name.now t.entries index at c.change_at-gone.result.0 None c.change_at-gone.ensures.gone (none_unless c.change_at-gone.result.0 c.in_default-gone.not-Some) in
    λ some. true≢false (sym (subst (λ o. IsSome o) (sym (held-taken c.args.name.now t c.args.self.now index at None none c.self.view_is)) some))
