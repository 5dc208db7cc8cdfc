-- The modules of one application more are loaded.
use Rattle.std.proofs.Common.{◌∙◌, ◌+◌, List, ap, drop, sym}
use Rattle.erl_semantics.proofs.Tests.{from_here}
use Rattle.release_boot.proofs.Orders.{loaded_both}
use Rattle.release_boot.specs.Boot.{all_loaded, modules_of}
use Rattle.release_table.specs.declared.table.AppFiles.{AppFiles}
use Rattle.erl_ir.specs.Module.{Forms}
use Rattle.release_boot.proofs.booting.load_all.Goals as goal

pub loop-app-preserved : goal.loop-app-preserved
loop-app-preserved c =
    let apps = c.args.apps.now in
    let index = c.loop-app.app-index in
    let app = c.app-item.result in
    let rest = modules_of (drop (index + 1) apps) in
    let before = c.loop-app.modules in
    ap (all_loaded rest) (c.in_ok-load_app.ensures ∙ ap (λ (ms : List Forms). all_loaded ms before) c.as_slice.ensures) ∙
    sym (loaded_both app.modules rest before) ∙
    ap (λ (fs : List AppFiles). all_loaded (modules_of fs) before) (sym (from_here apps index app c.loop-app-test.true c.app-item.is)) ∙
    c.loop-app.invariant
