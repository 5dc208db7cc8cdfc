-- What stays is what passes the test.
use Rattle.std.proofs.Common.{rules, nat_lt}
use Rattle.std.proofs.lemmas.Fn.{filter_same}
use Rattle.console_answers.proofs.journal.keep_after.Goals as goal

pub returns : goal.returns
returns c = filter_same _ (λ s. nat_lt c.args.floor s.serial) _ (λ x b f' k. search rules) _ _ c.retain.ensures.filtered
