-- The module is moved, and then written at its index; what was lent there is what it had.
use Rattle.std.proofs.Common.{◌≡◌, ◌-◌, length, slice_get, Some, sym, ap, ◌∙◌}
use Rattle.std.specs.Map.{values_of}
use Rattle.indexmap.specs.IndexMap.{move_index}
use Rattle.code_server.specs.Modules.{with_slots}
use Rattle.code_server.specs.Indices.{old_alone}
use Rattle.code_server.proofs.Standing.{lent_from_move_back, moved_back_from_move, with_slots_from_write}
use Rattle.code_server.proofs.indices.move_back.Goals as goal

pub returns-clause-moved : goal.returns-clause-moved
returns-clause-moved g c =
    let written = with_slots_from_write (λ _. old_alone c.args.instance c.args.post) c.move_index.new.self.entries c.args.index c.index_mut.result.now c.replace.new.dest c.index_mut.ensures.value c.replace.ensures.after in
    let moved : c.move_index.new.self.entries ≡ move_index c.args.table.now.entries (length c.args.table.now.entries - 1) c.args.index = c.move_index.ensures.entries ∙ ap (λ n. move_index c.args.table.now.entries (n - 1) c.args.index) c.len-last.ensures.len in
    written ∙ ap (λ es. with_slots (λ _. old_alone c.args.instance c.args.post) es c.args.index) moved ∙ moved_back_from_move c.args.table.now.entries c.args.index c.args.instance c.args.post c.requires

pub returns-clause-gone : goal.returns-clause-gone
returns-clause-gone g c =
    let es = c.args.table.now.entries in
    let moved : c.move_index.new.self.entries ≡ move_index es (length es - 1) c.args.index = c.move_index.ensures.entries ∙ ap (λ n. move_index es (n - 1) c.args.index) c.len-last.ensures.len in
    let lent = sym (ap (λ l. slice_get (values_of l) c.args.index) moved) ∙ c.index_mut.ensures.value in
    ap Some c.replace.ensures.value ∙ lent_from_move_back es c.args.index c.index_mut.result.now c.requires lent
