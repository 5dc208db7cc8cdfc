-- The instructions so far, and those that are left, are those of the whole.
use Rattle.std.proofs.Common.{◌≡◌, ◌++◌, drop, Ok}
use Rattle.erl_term.specs.Term.{trees}
use Rattle.otp_files.specs.Reading.{after, script_from}
use Rattle.otp_files.proofs.script.script.Given as goal

abbrev pub invariant-loop-term : goal.invariant-loop-term
invariant-loop-term g l =
    script_from g.T.FromInstruction.reading l.fn.first (trees l.row) ≡ after (script_from g.T.FromInstruction.reading l.number (trees (drop l.term-index l.row))) (λ rest. Ok (l.instructions.items ++ rest))
