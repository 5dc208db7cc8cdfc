-- The entries from the pid on are what lives there and behind.
use Rattle.std.proofs.Common.{◌∙◌}
use Rattle.process_index.proofs.Standing.{all_alive, later_alive}
use Rattle.process_index.proofs.slots.Slots.iter_from.Goals as goal

pub returns-clause-rest : goal.returns-clause-rest
returns-clause-rest g c =
    let es = c.self.inside.living.entries in
    let slots = c.args.self.now in
    c.range.ensures.between tt ∙ later_alive c.args.pid es slots (all_alive es c.self.inside.last slots c.range.ensures.ordered c.self.invariant c.self.view_is)
