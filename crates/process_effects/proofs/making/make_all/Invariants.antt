-- The acts that are left make what all of them make.
use Rattle.std.proofs.Common.{◌≡◌, ◌++◌, false}
use Rattle.std.specs.Vec.Iter.{into_iter_items}
use Rattle.process_effects.specs.Parted.{answers_of}
use Rattle.process_effects.specs.Batches.{AllFit, all_undone}
use Rattle.process_effects.specs.Begins.{acts_made}
use Rattle.process_store.specs.Table.{is_taken}
use Rattle.process_effects.proofs.making.make_all.Given as goal

abbrev pub invariant-loop-act : goal.invariant-loop-act
invariant-loop-act l = record {
  made : acts_made l.name l.code (into_iter_items l.act-iterator) l.store ≡ acts_made l.fn.name l.fn.code l.fn.acts.items l.fn.store;
  answers : l.answers.items ++ answers_of (into_iter_items l.act-iterator) ≡ l.fn.answers.items ++ answers_of l.fn.acts.items;
  back : all_undone l.changes.items l.store ≡ all_undone l.fn.changes.items l.fn.store;
  fits : AllFit l.fn.changes.items l.fn.store → AllFit l.changes.items l.store;
  free : is_taken l.name l.store ≡ false;
}
