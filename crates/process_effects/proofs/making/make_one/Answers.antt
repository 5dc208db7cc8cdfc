-- A message leaves names alone.
use Rattle.std.proofs.Common.{ap, ◌∙◌}
use Rattle.process_effects.proofs.Names.{sent_free}
use Rattle.process_effects.specs.Acts.{receiver_of}
use Rattle.process_store.specs.Table.{is_taken}
use Rattle.process_effects.proofs.making.make_one.Goals as goal

pub returns-in-Send-clause-free : goal.returns-in-Send-clause-free
returns-in-Send-clause-free c =
    ap (is_taken c.args.name) c.in_ok-send-in-Send.ensures.ok ∙ sent_free c.args.name c.in-Send.term (receiver_of c.in-Send.to c.args.store.now) c.args.store.now ∙ c.requires
