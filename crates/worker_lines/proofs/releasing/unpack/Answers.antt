-- The release of the files is known, or it is told what stands against it.
use Rattle.std.proofs.Common.{string_bytes}
use Rattle.worker_lines.specs.Execution.{release_read}
use Rattle.worker_lines.proofs.Files.{release-unread}
use Rattle.worker_lines.proofs.Heard.{IfOk-then, told-as}
use Rattle.worker_lines.proofs.releasing.unpack.Goals as goal

pub returns-in-Ok : goal.returns-in-Ok
returns-in-Ok g c =
    IfOk-then c.set_unpacked.result _ _ c.set_unpacked.ensures (λ fate told. told-as _ _ c.args.seat.now c.set_unpacked.new.seat c.args.out.now.items c.set_unpacked.new.out.items (λ lines answer does. release_read c.in-Ok.release fate lines answer c.in-Ok.ensures does) told)

pub returns-in-Err : goal.returns-in-Err
returns-in-Err g c =
    let it = c.in-Err.fault in
    IfOk-then c.tell_unread.result _ _ c.tell_unread.ensures (λ fate told. release-unread c.args.office.now.files.now c.args.vsn.now c.args.seat.now c.args.out.now.items c.tell_unread.new.out.items fate (string_bytes it.path) it.fault c.in-Err.ensures told)
