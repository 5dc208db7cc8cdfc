-- A new key goes to the index.
use Rattle.std.proofs.Common.{◌∙◌}
use Rattle.code_server.specs.Indices.{old_alone}
use Rattle.code_server.proofs.Standing.{insert_from_shift}
use Rattle.code_server.proofs.indices.put_back.Goals as goal

pub returns-in-Ok-clause-put : goal.returns-in-Ok-clause-put
returns-in-Ok-clause-put g c =
    c.in-Ok.ensures.entries ∙ insert_from_shift c.args.table.now c.args.name (old_alone c.args.instance c.args.post) c.args.index c.requires.within c.requires.absent
