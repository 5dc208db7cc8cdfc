-- Each by its word.
use Rattle.std.proofs.Common.{sym, ap, ◌∙◌}
use Rattle.shell_answers.specs.Answers.{activity_of}
use Rattle.shell_answers.proofs.Pieces.{bytes}
use Rattle.shell_answers.proofs.Texts.{idle-word, suspended-word, running-word}
use Rattle.shell_answers.proofs.processes.activity_word.Goals as goal

pub returns-in-Idle : goal.returns-in-Idle
returns-in-Idle c = sym idle-word ∙ ap (λ a. bytes (activity_of a)) (sym c.in-Idle.is)

pub returns-in-Suspended : goal.returns-in-Suspended
returns-in-Suspended c = sym suspended-word ∙ ap (λ a. bytes (activity_of a)) (sym c.in-Suspended.is)

pub returns-in-Runs : goal.returns-in-Runs
returns-in-Runs c = sym running-word ∙ ap (λ a. bytes (activity_of a)) (sym c.in-Runs.is)
