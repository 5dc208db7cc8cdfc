-- What the script has come to is told, or why it has not come to its end.
use Rattle.std.proofs.Common.{List, ℕ, subst}
use Rattle.std.specs.Str.{chars}
use Rattle.workers.specs.Installing.{Drives, InstallFails}
use Rattle.worker_lines.specs.Execution.{patience}
use Rattle.worker_lines.proofs.Heard.{IfOk-then}
use Rattle.worker_lines.proofs.Waiting.{install-told}
use Rattle.worker_lines.proofs.installing.install.Goals as goal

pub returns-in-Ok : goal.returns-in-Ok
returns-in-Ok g c =
    let vsn = chars c.args.vsn.now in
    IfOk-then c.say_end.result _ _ c.say_end.ensures (λ fate told. λ same. install-told vsn c.args.seat.now c.drive_install.new.seat c.args.out.now.items c.say_end.new.out.items fate c.in-Ok.end (subst (λ (v : List ℕ). Drives v patience c.args.seat.now c.drive_install.new.seat c.in-Ok.end) same c.in-Ok.ensures.driven) told)

pub returns-in-Err : goal.returns-in-Err
returns-in-Err g c =
    let vsn = chars c.args.vsn.now in
    let start = c.args.seat.now in
    IfOk-then c.tell_uninstalled.result _ _ c.tell_uninstalled.ensures (λ fate told. λ same. told start (subst (λ (v : List ℕ). InstallFails v patience start c.drive_install.new.seat c.in-Err.error) same c.in-Err.ensures.fails))
