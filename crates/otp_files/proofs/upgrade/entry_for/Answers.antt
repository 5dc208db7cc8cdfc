-- An entry that is of another version is passed.
use Rattle.std.specs.Str.{bytes_eq}
use Rattle.otp_files.proofs.Finding.{found_here, found_later, equal_bytes, other_bytes}
use Rattle.otp_files.proofs.upgrade.entry_for.Goals as goal

pub returns-then-same : goal.returns-then-same
returns-then-same g c =
    found_here (λ e. bytes_eq e.vsn c.args.vsn.now) c.args.entries.now c.loop-entry.entry-index c.entry-item.result _ c.loop-entry-test.true c.entry-item.is (equal_bytes _ _ c.same.result c.same.ensures c.if-same.true) c.loop-entry.invariant

pub loop-entry-preserved : goal.loop-entry-preserved
loop-entry-preserved g c =
    found_later (λ e. bytes_eq e.vsn c.args.vsn.now) c.args.entries.now c.loop-entry.entry-index c.entry-item.result _ c.loop-entry-test.true c.entry-item.is (other_bytes _ _ c.same.result c.same.ensures c.if-same.false) c.loop-entry.invariant
