-- The entries are what lives, in order of pid.
use Rattle.std.proofs.Common.{◌∙◌}
use Rattle.process_index.proofs.Standing.{all_alive}
use Rattle.process_index.proofs.slots.Slots.iter.Goals as goal

pub returns-clause-rest : goal.returns-clause-rest
returns-clause-rest g c =
    c.iter.ensures.rest ∙ all_alive c.self.inside.living.entries c.self.inside.last c.args.self.now c.iter.ensures.ordered c.self.invariant c.self.view_is
