-- None of the entries so far is of the version.
use Rattle.std.proofs.Common.{◌≡◌, drop}
use Rattle.otp_files.specs.Entries.{entry_for}
use Rattle.otp_files.proofs.upgrade.entry_for.Given as goal

abbrev pub invariant-loop-entry : goal.invariant-loop-entry
invariant-loop-entry g l = entry_for l.vsn l.entries ≡ entry_for l.vsn (drop l.entry-index l.entries)
