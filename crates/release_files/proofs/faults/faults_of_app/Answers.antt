-- By its `.app`, its appup and its sources.
use Rattle.release_files.proofs.Looked.{app_listed, app_unlisted}
use Rattle.release_files.proofs.faults.faults_of_app.Goals as goal

pub returns-in-Some : goal.returns-in-Some
returns-in-Some c =
    app_listed c.faults_of_sources.result c.args.files.now c.args.app.now c.in-Some.spec c.as_slice.result.now c.args.seen.now c.faults_of_sources.new.seen c.args.found.now.items c.spec_or_fault.new.found.items c.appup_fault.new.found.items c.faults_of_sources.new.found.items (rw c.in-Some.is at c.in_ok-spec.ensures) c.in_ok-appup_fault.ensures c.as_slice.ensures c.faults_of_sources.ensures

pub returns-in-None : goal.returns-in-None
returns-in-None c =
    app_unlisted c.args.files.now c.args.app.now c.args.seen.now c.args.found.now.items c.spec_or_fault.new.found.items c.appup_fault.new.found.items (rw c.in-None.is at c.in_ok-spec.ensures) c.in_ok-appup_fault.ensures
