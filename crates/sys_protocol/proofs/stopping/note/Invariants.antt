-- The names so far, and those that are left; and there is room for them.
use Rattle.std.proofs.Common.{◌≡◌, ◌≤◌, ◌+◌, ◌++◌, vec_capacity, vec_len}
use Rattle.std.specs.Vec.Iter.{into_iter_items, into_iter_len}
use Rattle.sys_protocol.proofs.stopping.note.Given as goal

abbrev pub invariant-loop-name : goal.invariant-loop-name
invariant-loop-name l = record {
  noted : l.noted.items ++ into_iter_items l.name-iterator ≡ l.fn.noted.items ++ l.fn.names.items;
  room : vec_len l.noted + into_iter_len l.name-iterator ≤ vec_capacity l.noted;
}
