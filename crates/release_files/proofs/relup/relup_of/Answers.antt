-- By what stands at its path.
use Rattle.std.proofs.Common.{string_bytes}
use Rattle.release_files.proofs.Judged.{relup_absent, relup_written, relup_wrong}
use Rattle.release_files.proofs.relup.relup_of.Goals as goal

pub returns-in-Ok-Some : goal.returns-in-Ok-Some
returns-in-Ok-Some c =
    let found = rw c.in-Ok-Some.field-0-is at c.in-Ok-Some.ensures in
    relup_written c.args.files.now c.args.vsn.now (string_bytes c.in-Ok.path) c.as_str.result.now c.in-Ok-Some.relup c.in-Ok.ensures c.as_str.ensures.value found.0 found.1

pub returns-in-Ok-no_scripts : goal.returns-in-Ok-no_scripts
returns-in-Ok-no_scripts c =
    let none = rw c.in-Ok-None.field-0-is at c.in-Ok-None.ensures in
    relup_absent c.args.files.now c.args.vsn.now (string_bytes c.in-Ok.path) c.as_str.result.now c.args.version.now c.in-Ok-no_scripts.relup c.in-Ok.ensures c.as_str.ensures.value none c.requires c.in-Ok-no_scripts.ensures

pub returns : goal.returns
returns c =
    relup_wrong c.args.files.now c.args.vsn.now (string_bytes c.in-Ok.path) c.as_str.result.now c.in-Err.fault c.in-Ok.ensures c.as_str.ensures.value c.in-Err.ensures
