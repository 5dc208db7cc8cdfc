-- A new key goes last.
use Rattle.std.proofs.Common.{◌∙◌}
use Rattle.std.specs.Str.{bytes_eq}
use Rattle.indexmap.proofs.CallerLemmas.{insert_entry-new}
use Rattle.code_server.specs.Modules.{new_slots}
use Rattle.code_server.proofs.indices.add.Goals as goal

pub returns-clause-added : goal.returns-clause-added
returns-clause-added g c =
    (rw c.in_ok-copy.ensures at c.in_ok-insert.ensures.entries) ∙ insert_entry-new bytes_eq c.args.table.now c.args.name.now (new_slots c.args.instance) c.requires
