-- The answers so far, and those of the acts that are left.
use Rattle.std.proofs.Common.{◌≡◌, ◌++◌, drop}
use Rattle.process_effects.specs.Parted.{answers_of}
use Rattle.process_effects.proofs.answers.answers_of.Given as goal

abbrev pub invariant-loop-act : goal.invariant-loop-act
invariant-loop-act l = l.answers.items ++ answers_of (drop l.act-index l.acts) ≡ answers_of l.acts
