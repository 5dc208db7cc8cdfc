-- The message is noted, and goes first when all is taken back.
use Rattle.process_effects.proofs.Undoing.{noted_back, noted_fits}
use Rattle.process_effects.specs.declared.change.Addition.TheVariants.{Sent}
use Rattle.process_effects.proofs.making.send_to.Goals as goal

pub returns-in-Ok-clause-back : goal.returns-in-Ok-clause-back
returns-in-Ok-clause-back c =
    noted_back c.args.changes.now.items c.push.new.self.items (Sent c.args.pid) c.args.store.now c.deliver.new.self c.in_ok-push.ensures.ok c.in-Ok.ensures.back

pub returns-in-Ok-clause-fits : goal.returns-in-Ok-clause-fits
returns-in-Ok-clause-fits c =
    noted_fits c.args.changes.now.items c.push.new.self.items (Sent c.args.pid) c.args.store.now c.deliver.new.self c.in_ok-push.ensures.ok c.in-Ok.ensures.back tt
