-- The purges that stand are taken back as all were at first; and those that were taken back can be made again.
use Rattle.std.proofs.Common.{◌≡◌, ◌+◌, ◌≤◌, vec_len, vec_capacity}
use Rattle.code_loading.specs.Unpurging.{AllUnpurge, Repurges, all_unpurged}
use Rattle.code_loading.proofs.unpurging.unpurge_all.Given as goal

abbrev pub invariant-loop-undo : goal.invariant-loop-undo
invariant-loop-undo l = record {
  fits : AllUnpurge l.left.items l.modules;
  given : all_unpurged l.left.items l.modules ≡ all_unpurged l.fn.left.items l.fn.modules;
  back : Repurges l.redos.items l.left.items l.modules l.fn.left.items l.fn.modules;
  room : vec_len l.left + vec_len l.redos ≤ vec_capacity l.left;
  room_again : vec_len l.left + vec_len l.redos ≤ vec_capacity l.redos;
}

abbrev pub decreases-loop-undo : goal.decreases-loop-undo
decreases-loop-undo l = vec_len l.left
