-- The instructions so far, and those of the entries that are left, are all.
use Rattle.std.proofs.Common.{◌≡◌, ◌+◌, drop}
use Rattle.otp_files.specs.Reading.{count_in}
use Rattle.otp_files.specs.Upgrades.{saturated}
use Rattle.otp_files.proofs.upgrade.drafts.count.Given as goal

abbrev pub invariant-loop-draft : goal.invariant-loop-draft
invariant-loop-draft g l = record {
  so_far : saturated (count_in l.drafts) ≡ saturated (l.count + count_in (drop l.draft-index l.drafts));
  fits : saturated l.count ≡ l.count;
}
