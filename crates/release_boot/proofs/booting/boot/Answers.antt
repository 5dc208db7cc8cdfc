-- What is loaded and started is the release's.
use Rattle.std.proofs.Common.{◌≡◌, ◌∙◌, ap}
use Rattle.code_loading.specs.Current.{current_code}
use Rattle.code_server.specs.Modules.{empty_table as no_modules}
use Rattle.process_store.specs.Table.{empty_table as no_processes}
use Rattle.release_boot.proofs.Orders.{all_there, fails_there, passed_on}
use Rattle.release_boot.specs.Boot.{BootFails, boot_apps, boot_modules, to_start}
use Rattle.release_boot.proofs.booting.boot.Goals as goal

pub returns-in_err-start_all-clause-failed : goal.returns-in_err-start_all-clause-failed
returns-in_err-start_all-clause-failed c =
    let r = c.args.release.now in
    let e = c.in_err-start_all.field-0.0 in
    let modules : c.load_modules.new.modules ≡ boot_modules r no_modules = c.in_ok-load_modules.ensures ∙ ap (boot_modules r) c.new-modules.ensures in
    let code : c.as_slice.result.now ≡ current_code (boot_modules r no_modules) = c.as_slice.ensures.value ∙ c.in_ok-code.ensures ∙ ap current_code modules in
    passed_on (λ e. BootFails e r) c.from_residual-in_err-start_all.result e c.from_residual-in_err-start_all.ensures (
    fails_there e c.as_slice.result.now (current_code (boot_modules r no_modules)) (to_start c.as_slice-2.result.now) (to_start r.rel.apps) c.in_ok-apps.apps (boot_apps r) c.new-processes.result no_processes code (ap to_start c.as_slice-2.ensures.items) c.in_ok-apps.ensures c.new-processes.ensures c.in_err-start_all.ensures.failed
    )

pub returns-clause-booted : goal.returns-clause-booted
returns-clause-booted c =
    let r = c.args.release.now in
    let modules : c.load_modules.new.modules ≡ boot_modules r no_modules = c.in_ok-load_modules.ensures ∙ ap (boot_modules r) c.new-modules.ensures in
    let code : c.as_slice.result.now ≡ current_code (boot_modules r no_modules) = c.as_slice.ensures.value ∙ c.in_ok-code.ensures ∙ ap current_code modules in (
      modules,
      all_there c.as_slice.result.now (current_code (boot_modules r no_modules)) (to_start c.as_slice-2.result.now) (to_start r.rel.apps) c.in_ok-apps.apps (boot_apps r) c.start_all.new.apps c.new-processes.result no_processes c.start_all.new.processes code (ap to_start c.as_slice-2.ensures.items) c.in_ok-apps.ensures c.new-processes.ensures c.in_ok-start_all.ensures.started,
    )
