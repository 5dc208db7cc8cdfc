-- By the `.rel`, and by what was looked at beside it.
use Rattle.release_files.proofs.AllTold.{all_ordered, all_sound, all_whole, behind, not_none, only_ordered, only_sound, only_whole, rel_wrong}
use Rattle.release_files.proofs.Faultless.{no_fault}
use Rattle.release_files.proofs.faults.all_faults.Goals as goal

pub faults_beside-requires : goal.faults_beside-requires
faults_beside-requires c = c.in-Ok.ensures.of_version

pub returns-in-Ok : goal.returns-in-Ok
returns-in-Ok c =
    let files = c.args.files.now in
    let vsn = c.args.vsn.now in
    let rel = c.in-Ok.rel in
    let law = c.files_are_read_one_way.ensures in
    let one = c.sources_mean_one_module.ensures.one in
    record {
      sound = behind _ _ c.faults_beside.result (λ found told. all_sound files vsn rel told.0 found.items c.in-Ok.ensures told.1) c.faults_beside.ensures;
      whole = behind _ _ c.faults_beside.result (λ found told. all_whole law one files vsn rel told.0 found.items c.in-Ok.ensures told.1) c.faults_beside.ensures;
      ordered = behind _ _ c.faults_beside.result (λ found told. all_ordered law files vsn rel told.0 found.items c.in-Ok.ensures told.1) c.faults_beside.ensures;
      none = behind _ _ c.faults_beside.result (λ found told. no_fault law files vsn rel told.0 found.items c.in-Ok.ensures told.1) c.faults_beside.ensures;
    }

pub returns-in-Err : goal.returns-in-Err
returns-in-Err c =
    let files = c.args.files.now in
    let vsn = c.args.vsn.now in
    let f = c.in-Err.fault in
    record {
      sound = behind _ _ c.only_fault.result (λ found told. only_sound files vsn f found.items (rel_wrong files vsn f c.in-Err.ensures told.0) told.1) c.only_fault.ensures;
      whole = behind _ _ c.only_fault.result (λ found told. only_whole c.files_are_read_one_way.ensures files vsn f found.items (rel_wrong files vsn f c.in-Err.ensures told.0) told.1) c.only_fault.ensures;
      ordered = behind _ _ c.only_fault.result (λ found told. only_ordered c.files_are_read_one_way.ensures files vsn f found.items (rel_wrong files vsn f c.in-Err.ensures told.0) told.1) c.only_fault.ensures;
      none = behind _ _ c.only_fault.result (λ found told none. absurd (not_none f found.items told.1 none)) c.only_fault.ensures;
    }
