-- What is written is read back, by the law of the two tables.
use Rattle.std.proofs.Common.{◌≡◌, true, Result, Ok, Err, IfOk}
use Rattle.erl_term.specs.declared.term.Term.{Term}
use Rattle.erl_term.specs.Term.{tree}
use Rattle.low_instructions.specs.declared.low.Low.{Low}
use Rattle.low_instructions.specs.Forms.{low_tree, printed}
use Rattle.low_instructions.specs.Laws.{is_low}
use Rattle.low_instructions.specs.Reading.{low_result}
use Rattle.low_instructions.proofs.Forms.{table}
use Rattle.low_instructions.proofs.writing.low_term.Goals as goal

written_back : {E : Type 0} (r : Result Term E) (l : Low) → IfOk r (λ t. tree t ≡ low_tree l) → IfOk r (λ t. is_low l ≡ true) → IfOk r (λ t. low_result (tree t) ≡ Ok l)
written_back (Ok t) l written kept = table.complete (tree t) l kept (printed written)
written_back (Err e) l written kept = tt

pub returns-clause-read_back : goal.returns-clause-read_back
returns-clause-read_back c =
    written_back c.to_term.result c.args.low.now c.to_term.ensures.written c.to_term.ensures.kept
