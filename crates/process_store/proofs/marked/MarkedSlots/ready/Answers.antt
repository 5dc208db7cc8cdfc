-- The set tells of each pid whether its process could take a message now.
use Rattle.std.proofs.Common.{map, ap, ◌∙◌}
use Rattle.process_store.specs.Living.{is_runnable}
use Rattle.process_store.proofs.Marking.{ready_set}
use Rattle.process_store.proofs.marked.MarkedSlots.ready.Goals as goal

pub returns : goal.returns
returns c =
    let i = c.self.inside in
    c.new.ensures ∙ ready_set i.ready i.below i.slots c.self.invariant ∙ ap (map is_runnable) c.self.view_is
