-- Those that are left give the applications that all give.
use Rattle.std.proofs.Common.{◌≡◌, vec_len}
use Rattle.code_changes.specs.Undo.{all_undone}
use Rattle.code_changes.proofs.renewing.undo_renewals.Given as goal

abbrev pub invariant-loop-at : goal.invariant-loop-at
invariant-loop-at l = record {
  undone : all_undone l.left.items l.apps ≡ all_undone l.fn.renewals.items l.fn.apps;
  long : vec_len l.left ≡ l._at;
}
