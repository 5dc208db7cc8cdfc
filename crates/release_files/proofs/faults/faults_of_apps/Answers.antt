-- By the applications so far.
use Rattle.std.proofs.Common.{sym, ◌∙◌}
use Rattle.release_files.proofs.Looked.{apps_begin, apps_end, apps_skip, apps_turn}
use Rattle.release_files.proofs.faults.faults_of_apps.Goals as goal

pub loop-app-init : goal.loop-app-init
loop-app-init c =
    apps_begin c.args.files.now c.new-seen.result c.args.found.now.items c.new-seen.ensures

pub loop-app-preserved-then-is_built_in : goal.loop-app-preserved-then-is_built_in
loop-app-preserved-then-is_built_in c =
    apps_skip c.args.files.now c.args.apps.now c.loop-app.seen c.args.found.now.items c.loop-app.found.items c.loop-app.app-index c.app-item.result c.loop-app-test.true c.app-item.is (sym c.is_built_in.ensures ∙ c.if-is_built_in.true) c.loop-app.invariant

pub loop-app-preserved : goal.loop-app-preserved
loop-app-preserved c =
    apps_turn c.args.files.now c.args.apps.now c.loop-app.seen c.faults_of_app.new.seen c.args.found.now.items c.loop-app.found.items c.faults_of_app.new.found.items c.loop-app.app-index c.app-item.result c.loop-app-test.true c.app-item.is (sym c.is_built_in.ensures ∙ c.if-is_built_in.false) c.loop-app.invariant c.in_ok-faults_of_app.ensures

pub returns : goal.returns
returns c = λ vsn told.
    (c.loop-app.seen, apps_end c.args.files.now c.args.apps.now c.loop-app.seen c.args.found.now.items c.loop-app.found.items c.loop-app.app-index c.loop-app-test.false c.loop-app.invariant vsn told)
