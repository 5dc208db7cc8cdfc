-- What the indexes keep, told of the table.
use Rattle.process_store.proofs.Sound.{is_sound}
use Rattle.process_store.proofs.store.ProcessStore.last_pid.Goals as goal

pub returns-clause-sound : goal.returns-clause-sound
returns-clause-sound c =
    let i = c.self.inside in
    is_sound i.names i.open_calls i.slots c.args.self.now c.self.invariant c.self.view_is
