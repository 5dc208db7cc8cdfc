-- What is written so far is the text of the characters so far.
use Rattle.std.proofs.Common.{◌≡◌, ◌++◌}
use Rattle.erl_term.specs.Rows.{integers}
use Rattle.erl_term.specs.Text.{utf8, elements_text}
use Rattle.erl_term.proofs.StringTexts.{is_first}
use Rattle.erl_term.proofs.strings.append_code_points.Given as goal

abbrev pub invariant-loop-c : goal.invariant-loop-c
invariant-loop-c l = (l.out.items ≡ l.initial.out.items ++ utf8 (elements_text (integers l.yielded))) × (l.is_first ≡ is_first l.yielded)
