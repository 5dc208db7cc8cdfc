-- So many so far.
use Rattle.std.proofs.Common.{◌≡◌, All, vec_len}
use Rattle.process_effects.specs.Telling.{IsEcho}
use Rattle.process_effects.proofs.telling.make_echoes.Given as goal

abbrev pub invariant-loop-i : goal.invariant-loop-i
invariant-loop-i l = record {
  all : All (IsEcho l.answers l.reasons) l.echoes.items;
  many : vec_len l.echoes ≡ l._i;
}
