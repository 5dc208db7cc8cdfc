-- The module is moved, and then written at the end; what was lent there is what it had.
use Rattle.std.proofs.Common.{◌≡◌, ◌-◌, length, slice_get, sym, ap, ◌∙◌}
use Rattle.std.specs.Map.{values_of}
use Rattle.indexmap.specs.IndexMap.{move_index}
use Rattle.code_server.specs.Modules.{with_slots}
use Rattle.code_server.proofs.Standing.{former_from_move, moved_last_from_move, post_from_move, with_slots_from_write}
use Rattle.code_server.proofs.indices.move_last.Goals as goal

pub returns-clause-moved : goal.returns-clause-moved
returns-clause-moved g c =
    let es = c.args.table.now.entries in
    let slots = c.args.slots in
    let count = c.len-end.ensures.len in
    let moved : c.move_index.new.self.entries ≡ move_index es c.args.index (length es - 1) = c.move_index.ensures.entries ∙ ap (λ n. move_index es c.args.index (n - 1)) count in
    let written = with_slots_from_write (λ _. slots) c.move_index.new.self.entries (c.len-end.result - 1) c.index_mut.result.now c.replace-gone.new.dest c.index_mut.ensures.value c.replace-gone.ensures.after in
    written ∙ (λ j. with_slots (λ _. slots) (moved j) (count j - 1)) ∙ moved_last_from_move slots es c.args.index c.requires

pub returns-clause-former : goal.returns-clause-former
returns-clause-former g c =
    let es = c.args.table.now.entries in
    let count = c.len-end.ensures.len in
    let moved : c.move_index.new.self.entries ≡ move_index es c.args.index (length es - 1) = c.move_index.ensures.entries ∙ ap (λ n. move_index es c.args.index (n - 1)) count in
    let lent = sym (λ j. slice_get (values_of (moved j)) (count j - 1)) ∙ c.index_mut.ensures.value in
    ap (λ slots. slots.former) c.replace-gone.ensures.value ∙ former_from_move es c.args.index c.index_mut.result.now c.requires lent

pub returns-clause-post : goal.returns-clause-post
returns-clause-post g c =
    let es = c.args.table.now.entries in
    let count = c.len-end.ensures.len in
    let moved : c.move_index.new.self.entries ≡ move_index es c.args.index (length es - 1) = c.move_index.ensures.entries ∙ ap (λ n. move_index es c.args.index (n - 1)) count in
    let lent = sym (λ j. slice_get (values_of (moved j)) (count j - 1)) ∙ c.index_mut.ensures.value in
    ap (λ slots. slots.post) c.replace-gone.ensures.value ∙ post_from_move es c.args.index c.index_mut.result.now c.requires lent
