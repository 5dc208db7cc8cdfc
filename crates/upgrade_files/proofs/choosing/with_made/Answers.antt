-- The relup is made, and the release has it in place of its own.
use Rattle.std.proofs.Common.{refl}
use Rattle.upgrade_files.proofs.choosing.with_made.Goals as goal

pub returns : goal.returns
returns c = record {
  left = refl;
  relup = c.in_ok-relup.relup;
  translates = c.in_ok-relup.ensures;
  installed = c.with_relup-to.ensures;
  made = refl;
}
