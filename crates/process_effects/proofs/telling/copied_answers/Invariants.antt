-- The copies so far are the answers so far.
use Rattle.std.proofs.Common.{◌≡◌, take}
use Rattle.process_effects.proofs.telling.copied_answers.Given as goal

abbrev pub invariant-loop-answer : goal.invariant-loop-answer
invariant-loop-answer l = l.copied.items ≡ take l.answer-index l.answers
