-- By its parts, in the order of reading.
use Rattle.std.proofs.Common.{string_bytes}
use Rattle.release_files.proofs.Whole.{appup_first, files_read, passed, sources_first, spec_first}
use Rattle.release_files.proofs.apps.files_of.Goals as goal

pub returns-in_err-spec : goal.returns-in_err-spec
returns-in_err-spec c =
    passed _ _ c.from_residual.result c.in_err-spec.field-0.0 c.from_residual.ensures (spec_first c.args.files.now c.args.app.now c.args.seen.now (string_bytes c.in_err-spec.field-0.0.path) c.in_err-spec.field-0.0.fault c.in_err-spec.ensures)

pub returns-in_err-appup : goal.returns-in_err-appup
returns-in_err-appup c =
    passed _ _ c.from_residual-in_err-appup.result c.in_err-appup.field-0.0 c.from_residual-in_err-appup.ensures (appup_first c.args.files.now c.args.app.now c.args.seen.now (string_bytes c.in_err-appup.field-0.0.path) c.in_err-appup.field-0.0.fault c.in_ok-spec.spec c.in_ok-spec.ensures c.in_err-appup.ensures)

pub returns-in_err-modules : goal.returns-in_err-modules
returns-in_err-modules c =
    passed _ _ c.from_residual-in_err-modules.result c.in_err-modules.field-0.0 c.from_residual-in_err-modules.ensures (sources_first c.args.files.now c.args.app.now c.args.seen.now c.as_slice.result.now (string_bytes c.in_err-modules.field-0.0.path) c.in_err-modules.field-0.0.fault c.in_ok-spec.spec c.in_ok-appup.appup c.in_ok-spec.ensures c.in_ok-appup.ensures c.as_slice.ensures c.in_err-modules.ensures)

pub returns : goal.returns
returns c =
    files_read c.args.files.now c.args.app.now c.in_ok-spec.spec c.in_ok-appup.appup c.as_slice.result.now c.args.seen.now c.sources_of.new.seen c.in_ok-modules.modules.items c.new.result c.in_ok-spec.ensures c.in_ok-appup.ensures c.as_slice.ensures c.new.ensures c.in_ok-modules.ensures
