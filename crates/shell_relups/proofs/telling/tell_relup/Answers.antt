-- What the files say is told, and nothing changes.
use Rattle.std.proofs.Common.{refl, subst}
use Rattle.release_files.specs.Files.{Contents}
use Rattle.shell_state.proofs.Done.{IfOk-then}
use Rattle.shell_relups.specs.Relups.{RelupTold}
use Rattle.shell_relups.proofs.telling.tell_relup.Goals as goal

pub returns : goal.returns
returns c =
    let from = c.args.from.now in
    let to = c.args.to.now in
    IfOk-then c.tell_relup_in.result _ _ c.tell_relup_in.ensures (λ fate told. (
      _,
      (told.0, subst (λ (files : Contents). RelupTold files from to fate told.0) c.files.ensures told.1, refl),
      refl,
      told.2,
    ))
