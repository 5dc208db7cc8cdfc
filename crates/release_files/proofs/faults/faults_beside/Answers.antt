-- By the relup and the applications.
use Rattle.release_files.proofs.Looked.{all_found}
use Rattle.release_files.proofs.faults.faults_beside.Goals as goal

pub returns : goal.returns
returns c =
    all_found c.args.files.now c.args.vsn.now c.as_slice.result.now c.args.rel.now.apps c.new-found.result.items c.relup_fault.new.found.items c.faults_of_apps.new.found.items c.new-found.ensures.items c.as_slice.ensures.items c.in_ok-relup_fault.ensures c.in_ok-faults_of_apps.ensures
