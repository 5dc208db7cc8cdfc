-- What stays is what passes the test.
use Rattle.std.proofs.Common.{rules}
use Rattle.std.proofs.lemmas.Fn.{filter_same}
use Rattle.unpurged_code.specs.Unpurged.{is_left_alone}
use Rattle.unpurged_code.proofs.listing.keep_left_alone.Goals as goal

pub returns : goal.returns
returns c =
    filter_same _ (is_left_alone c.args.modules.now c.args.processes.now) _ (λ x b f' k. search rules) _ _ c.retain.ensures.filtered
