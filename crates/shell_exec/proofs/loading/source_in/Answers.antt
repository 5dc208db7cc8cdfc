-- What the error of a source tells.
use Rattle.std.proofs.Common.{subst, sym}
use Rattle.std.specs.Str.{chars}
use Rattle.shell_exec.proofs.Sources.{unsourced}
use Rattle.shell_exec.specs.Done.{Unsourced}
use Rattle.shell_exec.specs.declared.loading.Unloaded.{Unloaded}
use Rattle.shell_exec.proofs.loading.source_in.Goals as goal

pub returns-in-Err : goal.returns-in-Err
returns-in-Err c =
    let name = chars c.args.name.text.now in
    let path = c.args.path.now in
    subst (λ (u : Unloaded). Unsourced c.args.files.now name path u) (sym c.not_loaded.ensures) (unsourced c.args.files.now name path c.in-Some.bytes.now c.in-Some.ensures c.in-Err.failure c.in-Err.ensures.refused c.in-Err.ensures.meaningless)
