-- The code is there, and it lacks what it doesn't export.
use Rattle.std.proofs.Common.{ap}
use Rattle.std.specs.Option.{option_copied}
use Rattle.upgrade_review.proofs.Noting.{lacks_is}
use Rattle.upgrade_review.proofs.codes.lacks_code_change.Goals as goal

pub returns : goal.returns
returns c =
    let is = ap option_copied c.in-Some.is in
    lacks_is _ c.in-Some.code.now c.in_ok-name.name c.exports.result is c.in_ok-name.ensures c.exports.ensures
