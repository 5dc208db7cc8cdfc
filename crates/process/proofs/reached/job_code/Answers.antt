-- By the indices that can be reached.
use Rattle.erl_semantics.specs.Views.{instance}
use Rattle.std.proofs.Common.{map}
use Rattle.process.proofs.Listing.{IsJobCode-indices}
use Rattle.process.proofs.reached.job_code.Goals as goal

pub returns : goal.returns
returns c =
    IsJobCode-indices c.args.modules.now (instance c.args.entered) c.in_ok-indices.indices (map instance c.in_ok-code.code) c.len.ensures.sound c.in_ok-indices.ensures c.in_ok-code.ensures
