-- What comes of the changes that are left comes, behind what was told so far, of all; and each that is left is of a gen_server process.
use Rattle.std.proofs.Common.{◌≡◌, ◌++◌, All, length}
use Rattle.std.specs.Vec.Iter.{into_iter_items, into_iter_len}
use Rattle.process_store.specs.Table.{living}
use Rattle.upgrade_calls.proofs.Reached.{Reached}
use Rattle.upgrade_calls.specs.Changing.{IsServer}
use Rattle.upgrade_calls.specs.Evaluated.{AreEvaluated}
use Rattle.upgrade_calls.proofs.evaluating.Evaluation.change_all.Given as goal

abbrev pub invariant-loop-change : goal.invariant-loop-change
invariant-loop-change l = record {
  evaluated : AreEvaluated l.processes l.evaluation;
  servers : All (λ c. IsServer (living c.pid l.processes)) (into_iter_items l.change-iterator);
  changes : l.evaluation.changes ++ into_iter_items l.change-iterator ≡ l.fn.self.changes ++ l.fn.changes.items;
  count : into_iter_len l.change-iterator ≡ length (into_iter_items l.change-iterator);
  reached : Reached l.code l.fn.changes.items l.processes l.fn.self (into_iter_items l.change-iterator) l.evaluation;
}
