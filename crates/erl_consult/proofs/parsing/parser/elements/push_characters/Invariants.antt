-- The characters so far, and those of what is left of the text, are the text's. Each turn leaves less of it.
use Rattle.std.proofs.Common.{◌≡◌}
use Rattle.std.specs.Prelude.{string_bytes, string_len}
use Rattle.std.specs.Str.{chars}
use Rattle.erl_term.specs.Rows.{append_trees, integers}
use Rattle.erl_term.specs.Term.{trees}
use Rattle.erl_consult.proofs.parsing.parser.elements.push_characters.Given as goal

abbrev pub invariant-loop-middle : goal.invariant-loop-middle
invariant-loop-middle l =
    append_trees (trees l.items.items) (integers (chars (string_bytes l.text))) ≡ append_trees (trees l.fn.items.items) (integers (chars (string_bytes l.fn.text)))

abbrev pub decreases-loop-middle : goal.decreases-loop-middle
decreases-loop-middle l = string_len l.text
