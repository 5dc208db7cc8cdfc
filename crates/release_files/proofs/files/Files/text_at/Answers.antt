-- Where a path stands, its file is found.
use Rattle.release_files.proofs.Held.{stands_somewhere}
use Rattle.release_files.proofs.files.Files.text_at.Goals as goal

pub unreachable-requires : goal.unreachable-requires
unreachable-requires c = stands_somewhere c.args.path.now c.args.self.now c.requires c.in-None.ensures
