-- There is a kind for each word that was read.
use Rattle.std.proofs.Common.{◌≡◌, length}
use Rattle.rehearse.proofs.asking.kinds_of.Given as goal

abbrev pub invariant-loop-word : goal.invariant-loop-word
invariant-loop-word l = length l.kinds.items ≡ l.word-index
