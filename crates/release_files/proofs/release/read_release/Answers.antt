-- By its parts, in the order of reading.
use Rattle.std.proofs.Common.{string_bytes}
use Rattle.release_files.proofs.Whole.{apps_first, passed, rel_first, relup_first}
use Rattle.release_files.proofs.release.read_release.Goals as goal

pub relup_of-requires : goal.relup_of-requires
relup_of-requires c = c.in_ok-rel.ensures.of_version

pub returns-in_err-rel : goal.returns-in_err-rel
returns-in_err-rel c =
    passed _ _ c.from_residual.result c.in_err-rel.field-0.0 c.from_residual.ensures (rel_first c.args.files.now c.args.vsn.now (string_bytes c.in_err-rel.field-0.0.path) c.in_err-rel.field-0.0.fault c.in_err-rel.ensures)

pub returns-in_err-relup : goal.returns-in_err-relup
returns-in_err-relup c =
    passed _ _ c.from_residual-in_err-relup.result c.in_err-relup.field-0.0 c.from_residual-in_err-relup.ensures (relup_first c.args.files.now c.args.vsn.now (string_bytes c.in_err-relup.field-0.0.path) c.in_err-relup.field-0.0.fault c.in_ok-rel.rel c.in_ok-rel.ensures c.in_err-relup.ensures)

pub returns-in_err-apps : goal.returns-in_err-apps
returns-in_err-apps c =
    passed _ _ c.from_residual-in_err-apps.result c.in_err-apps.field-0.0 c.from_residual-in_err-apps.ensures (apps_first c.args.files.now c.args.vsn.now (string_bytes c.in_err-apps.field-0.0.path) c.in_err-apps.field-0.0.fault c.in_ok-rel.rel c.in_ok-relup.relup c.as_slice.result.now c.in_ok-rel.ensures c.in_ok-relup.ensures c.as_slice.ensures.items c.in_err-apps.ensures)
