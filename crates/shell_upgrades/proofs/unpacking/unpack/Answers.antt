-- The release of the files is set unpacked, or it is told what stands against them.
use Rattle.std.proofs.Common.{◌⊎◌, ◌≡◌, string_bytes, subst}
use Rattle.release_files.specs.Faults.{IsFirstFault}
use Rattle.release_files.specs.Files.{Contents}
use Rattle.release_files.specs.Releases.{IsRelease}
use Rattle.release_files.specs.declared.fault.FileFault.TheVariants.{Memory}
use Rattle.shell_state.proofs.Done.{IfOk-then}
use Rattle.shell_state.proofs.Performing.{done-as}
use Rattle.shell_upgrades.specs.Upgrades.{release_read}
use Rattle.shell_upgrades.proofs.unpacking.unpack.Goals as goal

pub returns-in-Ok : goal.returns-in-Ok
returns-in-Ok c =
    let r = c.in-Ok.release in
    let is = subst (λ (files : Contents). IsRelease files c.args.vsn.now r) c.files.ensures c.in-Ok.ensures in
    IfOk-then c.set_unpacked.result _ _ c.set_unpacked.ensures (λ fate done. done-as c.set_unpacked.new.held c.args.out.now.items c.set_unpacked.new.out.items (λ d does. release_read r fate d is does) (done is.rel.of_version))

pub returns-in-Err : goal.returns-in-Err
returns-in-Err c =
    let it = c.in-Err.fault in
    let is = subst (λ (files : Contents). (it.fault ≡ Memory) ⊎ IsFirstFault files c.args.vsn.now (string_bytes it.path) it.fault) c.files.ensures c.in-Err.ensures in
    IfOk-then c.tell_unread_release.result _ _ c.tell_unread_release.ensures (λ fate done. done c.args.held.now c.args.vsn.now is)
