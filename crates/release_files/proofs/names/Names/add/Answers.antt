-- A new name goes last.
use Rattle.release_files.proofs.Known.{added_as}
use Rattle.release_files.proofs.names.Names.add.Goals as goal

pub returns : goal.returns
returns c =
    added_as c.self.inside.set.keys c.args.self.now c.insert.new.self.keys c.in_ok-name.name c.args.name.now c.in_ok-is_new.is_new c.self.view_is c.in_ok-name.ensures c.in_ok-is_new.ensures.added c.in_ok-is_new.ensures.keys
