-- The first numbers have their marks.
use Rattle.std.proofs.Common.{◌≡◌, ◌<◌, ◌≤◌, ◌+◌, ℕ}
use Rattle.ready_set.specs.Marks.{is_marked}
use Rattle.ready_set.proofs.tree.move_leaves.Given as goal

abbrev pub invariant-loop-number : goal.invariant-loop-number
invariant-loop-number l = record {
  moved : (k : ℕ) → k < l.number → is_marked l.marks (l.first + k) ≡ is_marked l.initial.marks (l.count + k);
  lower : (k : ℕ) → k < l.first → is_marked l.marks k ≡ is_marked l.initial.marks k;
  others : (k : ℕ) → l.number ≤ k → is_marked l.marks (l.first + k) ≡ is_marked l.initial.marks (l.first + k);
}
