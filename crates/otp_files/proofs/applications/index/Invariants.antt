-- The applications from here on are found by their names, and is_each_once tells whether one of these stands twice.
use Rattle.std.proofs.Common.{◌≡◌, drop}
use Rattle.otp_files.specs.Distinct.{are_distinct, app_names, FindsFrom}
use Rattle.otp_files.proofs.applications.index.Given as goal

abbrev pub invariant-loop-index : goal.invariant-loop-index
invariant-loop-index l = record {
  found : FindsFrom l.index l.indices (drop l.index l.items);
  distinct : l.is_each_once ≡ are_distinct (app_names (drop l.index l.items));
}
