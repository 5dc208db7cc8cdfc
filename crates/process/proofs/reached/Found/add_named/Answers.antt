-- By the name at the index, which stands at an index or not.
use Rattle.std.proofs.Common.{◌≡◌, length, slice_get, Some, sym, refl, arith, ◌∙◌}
use Rattle.std.proofs.lemmas.Option.{slice_get_read}
use Rattle.process.proofs.Finding.{AreFound-all, turn-absent, turn-placed}
use Rattle.process.proofs.reached.Found.add_named.Goals as goal
use Rattle.process.proofs.reached.Found.add_named.Goals.{in-Some+in_ok-add, in_default}

pub loop-name-preserved : goal.loop-name-preserved
loop-name-preserved c =
    let names = c.remote_modules-name-items.result.now in
    let i = c.loop-name.name-index in
    let name = c.name-item.result in
    let at : slice_get names i ≡ Some name = slice_get_read names (length names) i name refl c.loop-name-test.true c.name-item.is in
    elim c.match-index_of.branch [
      | in-Some+in_ok-add w ↦
          let both = turn-placed c.args.modules.now c.args.code.now names i w.in-Some.index name c.args.self.now c.loop-name.self w.add.new.self c.match-index_of.self w.self-is c.remote_modules-name-items.ensures at (sym c.index_of.ensures ∙ w.in-Some.is) w.in_ok-add.ensures.found w.in_ok-add.ensures.grows c.loop-name.invariant.grows c.loop-name.invariant.found in
          record { grows = both.0; found = both.1 }
      | in_default w ↦
          let both = turn-absent c.args.modules.now c.args.code.now names i name c.args.self.now c.loop-name.self c.match-index_of.self w.self-is at (sym c.index_of.ensures ∙ w.in_default.is) c.loop-name.invariant.grows c.loop-name.invariant.found in
          record { grows = both.0; found = both.1 }
    ]

pub returns-clause-found : goal.returns-clause-found
returns-clause-found c =
    AreFound-all c.args.modules.now c.args.code.now c.remote_modules-name-items.result.now c.loop-name.name-index c.loop-name.self.indices c.remote_modules-name-items.ensures (omega arith) c.loop-name.invariant.found
