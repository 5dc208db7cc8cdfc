-- The module of the file is loaded, or it is told what stands against it.
use Rattle.std.proofs.Common.{subst}
use Rattle.std.specs.Str.{chars}
use Rattle.shell_exec.specs.Done.{Unsourced}
use Rattle.shell_exec.specs.declared.loading.Unloaded.{Unloaded}
use Rattle.worker_lines.specs.Execution.{Loads, Performs, read}
use Rattle.worker_lines.proofs.Files.{source-faulted, source-unread}
use Rattle.worker_lines.proofs.Heard.{IfOk-then, told-as}
use Rattle.worker_lines.proofs.changing.load.Goals as goal

pub returns-in-Ok : goal.returns-in-Ok
returns-in-Ok g c =
    let it = c.in-Ok.ensures in
    let m = c.in-Ok.code in
    IfOk-then c.load_module.result _ _ c.load_module.ensures (λ fate told. told-as _ _ c.args.seat.now c.load_module.new.seat c.args.out.now.items c.load_module.new.out.items (λ lines answer does. read it.bytes m fate lines answer it.stands it.source it.named does) told)

pub returns-in-Err-Faulted : goal.returns-in-Err-Faulted
returns-in-Err-Faulted g c =
    let files = c.args.office.now.files.now in
    let name = chars c.args.name.text.now in
    let path = c.args.path.now in
    IfOk-then c.say_file_fault.result _ _ c.say_file_fault.ensures (λ fate told. source-faulted files name path c.args.seat.now c.args.out.now.items c.say_file_fault.new.out.items fate c.in-Err-Faulted.fault (subst (λ (u : Unloaded). Unsourced files name path u) c.in-Err-Faulted.field-0-is c.in-Err-Faulted.ensures) told)

pub returns-in-Err-Unread : goal.returns-in-Err-Unread
returns-in-Err-Unread g c =
    IfOk-then c.refuse.result _ _ c.refuse.ensures (λ fate told. source-unread c.args.office.now.files.now (chars c.args.name.text.now) c.args.path.now c.args.seat.now c.args.out.now.items c.refuse.new.out.items fate told)
