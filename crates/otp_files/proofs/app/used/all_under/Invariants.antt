-- What stands under the key so far, and what is left, is what the whole has.
use Rattle.std.proofs.Common.{◌≡◌, drop}
use Rattle.erl_term.specs.Accessors.{all_of}
use Rattle.erl_term.specs.Term.{trees}
use Rattle.erl_term.specs.Conversions.{given}
use Rattle.otp_files.specs.Reading.{property_of}
use Rattle.otp_files.specs.Apps.{values_of}
use Rattle.otp_files.proofs.Properties.{under}
use Rattle.otp_files.proofs.app.used.all_under.Given as goal

abbrev pub invariant-loop-term : goal.invariant-loop-term
invariant-loop-term g l =
    given (all_of property_of (trees l.row)) (λ ps. all_of g.T.FromValue.reading (values_of l.key ps)) ≡ under g.T.FromValue.reading l.key (trees (drop l.term-index l.row)) l.values.items
