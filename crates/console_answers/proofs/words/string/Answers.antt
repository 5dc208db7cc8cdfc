-- A term whose tree is the list is the list.
use Rattle.std.proofs.Common.{sym, ap, ◌∙◌}
use Rattle.erl_term.specs.Term.{term_of, term_of-tree}
use Rattle.console_answers.proofs.words.string.Goals as goal

pub returns : goal.returns
returns c = sym (term_of-tree c.in_ok-term.term) ∙ ap term_of c.in_ok-term.ensures.written
