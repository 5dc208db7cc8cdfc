-- The modules that are left are purged as all would have been at first; and those that were purged can be taken back.
use Rattle.std.proofs.Common.{◌≡◌, ◌≤◌, drop, length, vec_capacity, vec_len}
use Rattle.code_loading.specs.Pieces.{IsTaken}
use Rattle.code_loading.specs.Purging.{all_purged}
use Rattle.code_loading.specs.Unpurging.{AllUnpurge, all_unpurged}
use Rattle.code_loading.proofs.purging.purge_each.Given as goal

abbrev pub invariant-loop-name : goal.invariant-loop-name
invariant-loop-name l = record {
  purged : all_purged (drop l.name-index l.names) l.modules ≡ all_purged l.names l.fn.modules;
  fits : AllUnpurge l.undos.items l.modules;
  back : all_unpurged l.undos.items l.modules ≡ l.fn.modules;
  taken : IsTaken l.undos.items l.fn.modules l.modules;
  within : vec_len l.undos ≤ l.name-index;
  room : length l.names ≤ vec_capacity l.undos;
}
