-- No message before the place is taken.
use Rattle.std.proofs.Common.{◌≡◌, ℕ, ◌<◌, get_or, false}
use Rattle.erl_term.specs.declared.term.Term.{Term}
use Rattle.process.specs.Process.{takes_at}
use Rattle.std.specs.Option.{option_copied}
use Rattle.process.proofs.process.first_of.Given as goal

abbrev pub invariant-loop-position : goal.invariant-loop-position
invariant-loop-position l = (k : ℕ) (d : Term) → k < l.position → takes_at l.pid l.place (option_copied l.rests_in) (get_or l.mailbox.items k d) ≡ false
