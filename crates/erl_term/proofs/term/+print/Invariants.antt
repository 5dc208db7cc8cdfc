-- What is written so far is the text of the elements so far, and each call goes down.
use Rattle.std.proofs.Common.{◌≡◌, ◌++◌, ◌+◌, ◌*◌, max, take}
use Rattle.erl_term.specs.Tree.{depth, greatest_depth}
use Rattle.erl_term.specs.Term.{tree, trees}
use Rattle.erl_term.specs.Text.{utf8, others_text}
use Rattle.erl_term.proofs.term.+print.Given as goal

abbrev pub decreases-Term::append_text : goal.decreases-Term::append_text
decreases-Term::append_text l = 7 * depth (tree l.self.now)

abbrev pub decreases-Terms::append_as_tuple : goal.decreases-Terms::append_as_tuple
decreases-Terms::append_as_tuple l = 7 * greatest_depth l.self.now + 6

abbrev pub decreases-Terms::append_as_list : goal.decreases-Terms::append_as_list
decreases-Terms::append_as_list l = 7 * greatest_depth l.self.now + 6

abbrev pub decreases-printing::append_list : goal.decreases-printing::append_list
decreases-printing::append_list l = 7 * max (greatest_depth (trees l.front.now)) (greatest_depth (trees l.back.now)) + 5

abbrev pub decreases-printing::append_both : goal.decreases-printing::append_both
decreases-printing::append_both l = 7 * max (greatest_depth (trees l.front.now)) (greatest_depth (trees l.back.now)) + 4

abbrev pub decreases-printing::append_elements : goal.decreases-printing::append_elements
decreases-printing::append_elements l = 7 * greatest_depth (trees l.terms.now) + 3

abbrev pub decreases-printing::append_others : goal.decreases-printing::append_others
decreases-printing::append_others l = 7 * greatest_depth (trees l.terms.now) + 2

abbrev pub decreases-printing::append_other : goal.decreases-printing::append_other
decreases-printing::append_other l = 7 * depth (tree l.term.now) + 1

abbrev pub invariant-printing::append_others-loop-term : goal.invariant-printing::append_others-loop-term
invariant-printing::append_others-loop-term l =
    l.out.items ≡ l.initial.out.items ++ utf8 (others_text (trees (take l.term-index l.terms)))
