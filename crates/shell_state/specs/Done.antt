-- How a line ends: what was done, and what a job that is kept answers.
use Rattle.std.specs.Prelude.{◌≡◌, ◌+◌, ℕ, length, List, ◌++◌, Option, None, Some}
use Rattle.erl_semantics.specs.declared.jobs.Job.{Job}
use Rattle.shell_answers.specs.Answers.{fixed, job_of, line_of}
use Rattle.shell_answers.specs.declared.fixed.Fixed.TheVariants as words
use Rattle.shell_steps.specs.State.{Effect, ShellState, with_job}
use Rattle.shell_steps.specs.declared.fate.Fate.{Fate}
use Rattle.shell_steps.specs.declared.fate.Fate.TheVariants as fates

-- A line had one of these effects: the shell is the one after it, and its text is appended.
abbrev pub IsDone : (Effect → Type 0) → ShellState → List ℕ → List ℕ → Type 0
IsDone may new text appended = (d : Effect) × may d × (new ≡ d.after) × (appended ≡ text ++ d.text)

-- A job was kept, and its number told; or memory was refused.
abbrev pub KeepsJob : ℕ → Job → Option Fate → ShellState → ShellState → List ℕ → List ℕ → Type 0
KeepsJob pid job None old new text appended =
    (new ≡ with_job job old) × (appended ≡ text ++ line_of (job_of (length old.jobs + 1) pid))
KeepsJob pid job (Some fates.Refused) old new text appended = (new ≡ old) × (appended ≡ text ++ line_of (fixed words.Memory))
KeepsJob pid job (Some (fates.StoppedAt mark)) old new text appended = ⊥
