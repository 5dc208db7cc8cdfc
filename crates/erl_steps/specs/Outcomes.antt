-- What is evaluated ends: by the rules an outcome comes of each call from outside, and of each job.
use Rattle.std.specs.Prelude.{ℕ, List}
use Rattle.erl_term.specs.Tree.{Trees}
use Rattle.erl_semantics.specs.State.{World}
use Rattle.erl_semantics.specs.Jobs.{Outcome, Evaluates, Job, GivesJob}

abbrev pub EachCallHasAnOutcome : Type 0
EachCallHasAnOutcome = (w : World) (m f : List ℕ) (args : Trees) → (o : Outcome) × Evaluates w m f args o

abbrev pub EachJobHasAnOutcome : Type 0
EachJobHasAnOutcome = (j : Job) → (o : Outcome) × GivesJob j o
