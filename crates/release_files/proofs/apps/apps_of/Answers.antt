-- By the applications so far.
use Rattle.std.proofs.Common.{string_bytes, sym, ◌∙◌}
use Rattle.release_files.proofs.Applied.{app_skipped, app_turn, apps_begin, apps_end, apps_wrong, seen_distinct}
use Rattle.release_files.proofs.Whole.{passed}
use Rattle.std.proofs.Common.{take}
use Rattle.release_files.proofs.apps.apps_of.Goals as goal

pub loop-app-init : goal.loop-app-init
loop-app-init c =
    apps_begin c.args.files.now c.new-seen.result c.new-read.result.items c.new-seen.ensures c.new-read.ensures.items

pub loop-app-preserved-then-is_built_in : goal.loop-app-preserved-then-is_built_in
loop-app-preserved-then-is_built_in c =
    app_skipped c.args.files.now c.args.apps.now c.loop-app.seen c.loop-app.read.items c.loop-app.app-index c.app-item.result c.loop-app-test.true c.app-item.is (sym c.is_built_in.ensures ∙ c.if-is_built_in.true) c.loop-app.invariant

pub files_of-requires : goal.files_of-requires
files_of-requires c =
    seen_distinct c.args.files.now (take c.loop-app.app-index c.args.apps.now) c.loop-app.seen c.loop-app.read.items c.loop-app.invariant

pub returns-in_err-found : goal.returns-in_err-found
returns-in_err-found c =
    passed _ _ c.from_residual.result c.in_err-found.field-0.0 c.from_residual.ensures (apps_wrong c.args.files.now c.args.apps.now c.loop-app.seen c.loop-app.read.items c.loop-app.app-index c.app-item.result (string_bytes c.in_err-found.field-0.0.path) c.in_err-found.field-0.0.fault c.loop-app-test.true c.app-item.is (sym c.is_built_in.ensures ∙ c.if-is_built_in.false) c.loop-app.invariant c.in_err-found.ensures)

pub loop-app-preserved : goal.loop-app-preserved
loop-app-preserved c =
    app_turn c.args.files.now c.args.apps.now c.loop-app.seen c.files_of.new.seen c.loop-app.read.items c.push.new.self.items c.loop-app.app-index c.app-item.result c.in_ok-found.found c.loop-app-test.true c.app-item.is (sym c.is_built_in.ensures ∙ c.if-is_built_in.false) c.loop-app.invariant c.in_ok-found.ensures.0 c.in_ok-found.ensures.1 c.in_ok-found.ensures.2 c.in-Ok.ensures.items

pub returns : goal.returns
returns c =
    apps_end c.args.files.now c.args.apps.now c.loop-app.seen c.loop-app.read.items c.loop-app.app-index c.loop-app-test.false c.loop-app.invariant
