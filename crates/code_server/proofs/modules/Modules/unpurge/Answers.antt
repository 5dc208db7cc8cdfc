-- What makes the change again: what was taken away, at its index.
use Rattle.std.proofs.Common.{◌≡◌, ◌+◌, ◌-◌, arith}
use Rattle.code_server.specs.declared.undo.Redo.TheVariants.{Replace, Demote, Move, Purge, Remove}
use Rattle.code_server.specs.declared.undo.ModulesUndo.TheVariants.{Replaced, Demoted, Moved, Purged, Removed}
use Rattle.code_server.specs.Modules.{Table}
use Rattle.code_server.proofs.Redoing.{Demoted-again, Moved-again, Purged-again, Removed-again, Replaced-again, again_of}
use Rattle.code_server.proofs.modules.Modules.unpurge.Goals as goal
use Rattle.code_server.proofs.modules.Modules.unpurge.Goals.{in-Ok, in-Err}

pub returns-in-Replaced-clause-again : goal.returns-in-Replaced-clause-again
returns-in-Replaced-clause-again g c =
    let t : Table g.row.C.Denot = record { entries = c.self.inside.table.entries; next = c.self.inside.last + 1 } in
    let index = c.in-Replaced.index in
    let instance = c.in-Replaced.instance in
    let gone = c.change_at-gone.result.0 in
    let noted = c.change_at-gone.result.1 in
    let post = c.in-Replaced.post in
    again_of (Replace index gone noted) c.args.undo (Replaced index instance post) t c.args.self.now _ c.in-Replaced.is c.self.view_is c.requires.fits (λ fits.
    let count : c.self.inside.last - 1 + 1 + 1 ≡ t.next = omega (arith, fits.sound.counted.0) in
    Replaced-again index instance post gone noted t c.change_at-gone.new.table.entries (c.self.inside.last - 1 + 1) c.self.invariant c.change_at-gone.ensures.changed c.change_at-gone.ensures.gone c.change_at-gone.ensures.post count fits)

pub returns-in-Demoted-clause-again : goal.returns-in-Demoted-clause-again
returns-in-Demoted-clause-again g c =
    let t : Table g.row.C.Denot = record { entries = c.self.inside.table.entries; next = c.self.inside.last + 1 } in
    let index = c.in-Demoted.index in
    let instance = c.in-Demoted.instance in
    let gone = c.change_at-gone-in-Demoted.result.0 in
    let noted = c.change_at-gone-in-Demoted.result.1 in
    let post = c.in-Demoted.post in
    again_of (Demote index gone noted) c.args.undo (Demoted index instance post) t c.args.self.now _ c.in-Demoted.is c.self.view_is c.requires.fits
    (Demoted-again index instance post gone noted t c.change_at-gone-in-Demoted.new.table.entries c.self.invariant c.change_at-gone-in-Demoted.ensures.changed c.change_at-gone-in-Demoted.ensures.gone c.change_at-gone-in-Demoted.ensures.post)

pub returns-in-Moved-clause-again : goal.returns-in-Moved-clause-again
returns-in-Moved-clause-again g c =
    let t : Table g.row.C.Denot = record { entries = c.self.inside.table.entries; next = c.self.inside.last + 1 } in
    let index = c.in-Moved.index in
    let instance = c.in-Moved.instance in
    let gone = c.move_back-gone.result in
    let post = c.in-Moved.post in
    again_of (Move index gone) c.args.undo (Moved index instance post) t c.args.self.now _ c.in-Moved.is c.self.view_is c.requires.fits (λ fits.
    let count : c.self.inside.last - 1 + 1 + 1 ≡ t.next = omega (arith, fits.sound.counted.0) in
    Moved-again index instance post gone t c.move_back-gone.new.table.entries (c.self.inside.last - 1 + 1) c.self.invariant c.move_back-gone.ensures.moved c.move_back-gone.ensures.gone count fits)

pub returns-in-Purged-clause-again : goal.returns-in-Purged-clause-again
returns-in-Purged-clause-again g c =
    let t : Table g.row.C.Denot = record { entries = c.self.inside.table.entries; next = c.self.inside.last + 1 } in
    let index = c.in-Purged.index in
    let instance = c.in-Purged.instance in
    let gone = c.change_at-gone-in-Purged.result.0 in
    let noted = c.change_at-gone-in-Purged.result.1 in
    let post = c.in-Purged.post in
    again_of (Purge index gone noted) c.args.undo (Purged index instance post) t c.args.self.now _ c.in-Purged.is c.self.view_is c.requires.fits
    (Purged-again index instance post gone noted t c.change_at-gone-in-Purged.new.table.entries c.self.invariant c.change_at-gone-in-Purged.ensures.changed c.change_at-gone-in-Purged.ensures.gone c.change_at-gone-in-Purged.ensures.post)

pub returns-after-put_back-clause-again : goal.returns-after-put_back-clause-again
returns-after-put_back-clause-again g c =
    let t : Table g.row.C.Denot = record { entries = c.self.inside.table.entries; next = c.self.inside.last + 1 } in
    let index = c.in-Removed.index in
    let name = c.in-Removed.name in
    let instance = c.in-Removed.instance in
    let post = c.in-Removed.post in
    elim c.match-put_back.branch [
      | in-Ok w ↦
          rw w.result-is (again_of (Remove index) c.args.undo (Removed index name instance post) t c.args.self.now _ c.in-Removed.is c.self.view_is c.requires.fits (Removed-again index name instance post t c.put_back.new.table.entries c.self.invariant w.in-Ok.ensures.put))
      | in-Err w ↦ rw w.result-is tt
    ]
