-- Nothing stands behind the version.
use Rattle.std.proofs.Common.{inr, refl, ◌∙◌}
use Rattle.std.proofs.lemmas.List.{append-nil}
use Rattle.release_files.specs.Paths.{release_path}
use Rattle.release_files.proofs.rel.missing_rel.Goals as goal

pub returns-in-Ok : goal.returns-in-Ok
returns-in-Ok c = inr (c.in-Ok.ensures ∙ append-nil (release_path c.args.vsn.now), refl)
