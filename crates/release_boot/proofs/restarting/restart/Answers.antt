-- What is loaded and started is the release's.
use Rattle.std.proofs.Common.{◌≡◌, ◌∙◌, ap}
use Rattle.code_loading.specs.Current.{current_code}
use Rattle.release_boot.proofs.Orders.{each_there}
use Rattle.release_boot.specs.Boot.{boot_apps, boot_modules, to_start}
use Rattle.release_boot.proofs.restarting.restart.Goals as goal

pub returns : goal.returns
returns c =
    let r = c.args.release.now in
    let m = c.args.modules in
    let code : c.as_slice.result.now ≡ current_code (boot_modules r m) = c.as_slice.ensures.value ∙ c.in_ok-code.ensures ∙ ap current_code c.in_ok-load_modules.ensures in (
      c.in_ok-load_modules.ensures,
      each_there c.as_slice.result.now (current_code (boot_modules r m)) (to_start c.as_slice-2.result.now) (to_start r.rel.apps) c.in_ok-apps.apps (boot_apps r) c.restart_each.new.apps c.args.processes c.restart_each.new.processes code (ap to_start c.as_slice-2.ensures.items) c.in_ok-apps.ensures c.in_ok-restart_each.ensures,
    )
