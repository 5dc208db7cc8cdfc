-- Each turn writes one term more, which is less deep than its row.
use Rattle.std.proofs.Common.{◌+◌, drop, sym, ap, ◌∙◌, rules, lit<}
use base.Stored.{gnum, gcons}
use Rattle.erl_term.specs.Term.{tree, trees}
use Rattle.erl_term.specs.TreeCode.{tree_code, trees_code, chars_code}
use Rattle.erl_ir.specs.ModuleBytes.{written}
use Rattle.std.proofs.lemmas.List.{drop_all}
use Rattle.erl_ir.proofs.Written.{both_is, front_is, last, left, like, row_end, term_in, tree-parts}
use Rattle.erl_ir.proofs.bytes.terms.+terms.Goals as goal

pub write_term-returns-in_ok-push-in-Atom : goal.write_term-returns-in_ok-push-in-Atom
write_term-returns-in_ok-push-in-Atom t c =
    last c.write_name.result (chars_code c.in-Atom.name) (tree_code (tree c.args.term.now)) c.write_name.new.out.items c.push.new.self.items c.args.out.now.items (
    front_is 2 (chars_code c.in-Atom.name) c.args.out.now.items c.push.new.self.items (lit< tt) c.in_ok-push-in-Atom.ensures.items ∙
    like (gcons (gnum 2) (chars_code c.in-Atom.name)) (tree_code (tree c.args.term.now)) c.args.out.now.items (sym (ap (λ x. tree_code (tree x)) c.in-Atom.is))
    ) c.write_name.ensures

pub write_term-returns-in_ok-push-in-Pid : goal.write_term-returns-in_ok-push-in-Pid
write_term-returns-in_ok-push-in-Pid t c =
    last c.write_number.result (gnum c.in-Pid.n) (tree_code (tree c.args.term.now)) c.write_number.new.out.items c.push-in-Pid.new.self.items c.args.out.now.items (
    front_is 3 (gnum c.in-Pid.n) c.args.out.now.items c.push-in-Pid.new.self.items (lit< tt) c.in_ok-push-in-Pid.ensures.items ∙
    like (gcons (gnum 3) (gnum c.in-Pid.n)) (tree_code (tree c.args.term.now)) c.args.out.now.items (sym (ap (λ x. tree_code (tree x)) c.in-Pid.is))
    ) c.write_number.ensures

pub write_term-returns-in_ok-push-in-Tuple : goal.write_term-returns-in_ok-push-in-Tuple
write_term-returns-in_ok-push-in-Tuple t c =
    last c.write_terms.result (trees_code (trees c.as_slice.result.now)) (tree_code (tree c.args.term.now)) c.write_terms.new.out.items c.push-in-Tuple.new.self.items c.args.out.now.items (
    front_is 4 (trees_code (trees c.as_slice.result.now)) c.args.out.now.items c.push-in-Tuple.new.self.items (lit< tt) c.in_ok-push-in-Tuple.ensures.items ∙
    like (gcons (gnum 4) (trees_code (trees c.as_slice.result.now))) (tree_code (tree c.args.term.now)) c.args.out.now.items (ap (λ r. gcons (gnum 4) (trees_code r)) c.as_slice.ensures ∙ sym (ap (λ x. tree_code (tree x)) c.in-Tuple.is))
    ) c.write_terms.ensures

pub write_term-returns-in_ok-push-in-List : goal.write_term-returns-in_ok-push-in-List
write_term-returns-in_ok-push-in-List t c =
    last c.write_terms-in-List.result (trees_code (trees c.as_slice-in-List.result.now)) (tree_code (tree c.args.term.now)) c.write_terms-in-List.new.out.items c.push-in-List.new.self.items c.args.out.now.items (
    front_is 5 (trees_code (trees c.as_slice-in-List.result.now)) c.args.out.now.items c.push-in-List.new.self.items (lit< tt) c.in_ok-push-in-List.ensures.items ∙
    like (gcons (gnum 5) (trees_code (trees c.as_slice-in-List.result.now))) (tree_code (tree c.args.term.now)) c.args.out.now.items (ap (λ r. gcons (gnum 5) (trees_code r)) c.as_slice-in-List.ensures ∙ sym (ap (λ x. tree_code (tree x)) c.in-List.is))
    ) c.write_terms-in-List.ensures

pub write_terms-write_term-requires : goal.write_terms-write_term-requires
write_terms-write_term-requires t c =
    let smaller = term_in c.args.row.now c.loop-term.term-index c.term-item.result c.loop-term-test.true c.term-item.is in
    search rules

pub write_terms-loop-term-preserved : goal.write_terms-loop-term-preserved
write_terms-loop-term-preserved t c =
    both_is (tree_code (tree c.term-item.result)) (trees_code (trees (drop (c.loop-term.term-index + 1) c.args.row.now))) c.loop-term.out.items c.push.new.self.items c.write_term.new.out.items (tree-parts (tree c.term-item.result)) c.in_ok-push.ensures.items c.in_ok-write_term.ensures ∙
    like (gcons (tree_code (tree c.term-item.result)) (trees_code (trees (drop (c.loop-term.term-index + 1) c.args.row.now)))) (trees_code (trees (drop c.loop-term.term-index c.args.row.now))) c.loop-term.out.items (
    sym (ap (λ l. trees_code (trees l)) (left c.args.row.now c.loop-term.term-index c.term-item.result c.loop-term-test.true c.term-item.is))) ∙
    c.loop-term.invariant

pub write_terms-returns : goal.write_terms-returns
write_terms-returns t c =
    row_end (trees_code (trees (drop c.loop-term.term-index c.args.row.now))) c.loop-term.out.items c.push-2.new.self.items (written (trees_code (trees c.args.row.now)) c.args.out.now.items)
    (ap (λ l. trees_code (trees l)) (drop_all c.loop-term.term-index c.args.row.now c.loop-term-test.false)) c.loop-term.invariant c.in_ok-push-2.ensures.items
