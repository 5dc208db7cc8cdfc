-- The states so far, and those that are left; there is room for these.
use Rattle.std.proofs.Common.{◌≡◌, ◌≤◌, ◌++◌, drop, length, map, vec_capacity, vec_len}
use Rattle.app_table.proofs.children.states_of.Given as goal

abbrev pub invariant-loop-child : goal.invariant-loop-child
invariant-loop-child l = record {
  states : l.states.items ++ map (λ c. c.state) (drop l.child-index l.row) ≡ map (λ c. c.state) l.row;
  len : vec_len l.states ≡ l.child-index;
  room : length l.row ≤ vec_capacity l.states;
}
