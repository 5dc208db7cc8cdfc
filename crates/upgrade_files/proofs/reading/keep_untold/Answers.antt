-- What stays is what passes the test.
use Rattle.std.proofs.Common.{rules}
use Rattle.std.proofs.lemmas.Fn.{filter_same}
use Rattle.upgrade_files.specs.Reading.{is_untold}
use Rattle.upgrade_files.proofs.reading.keep_untold.Goals as goal

pub returns : goal.returns
returns c = filter_same _ (is_untold c.args.told.now) _ (λ x b f' k. search rules) _ _ c.retain.ensures.filtered
