-- Each turn writes one pattern more, which is less deep than its row.
use Rattle.std.proofs.Common.{◌+◌, drop, sym, ap, ◌∙◌, rules, lit<}
use base.Stored.{gnil, gnum, gcons}
use Rattle.erl_term.specs.Term.{tree}
use Rattle.erl_term.specs.TreeCode.{tree_code}
use Rattle.erl_ir.specs.PatternCode.{pat_code, pats_code}
use Rattle.erl_ir.specs.PatternForms.{pat, pats}
use Rattle.erl_ir.specs.ModuleBytes.{written}
use Rattle.std.proofs.lemmas.List.{drop_all}
use Rattle.erl_ir.proofs.PatternRows.{depth_in}
use Rattle.erl_ir.proofs.Written.{both_is, front_is, last, left, like, pat-parts, row_end, written-nil}
use Rattle.erl_ir.proofs.bytes.patterns.+patterns.Goals as goal

pub write_pattern-returns-in_ok-push-in-Literal : goal.write_pattern-returns-in_ok-push-in-Literal
write_pattern-returns-in_ok-push-in-Literal t c =
    last c.write_term.result (tree_code (tree c.in-Literal.term)) (pat_code (pat c.args.pattern.now)) c.write_term.new.out.items c.push.new.self.items c.args.out.now.items (
    front_is 0 (tree_code (tree c.in-Literal.term)) c.args.out.now.items c.push.new.self.items (lit< tt) c.in_ok-push-in-Literal.ensures.items ∙
    like (gcons (gnum 0) (tree_code (tree c.in-Literal.term))) (pat_code (pat c.args.pattern.now)) c.args.out.now.items (sym (ap (λ x. pat_code (pat x)) c.in-Literal.is))
    ) c.write_term.ensures

pub write_pattern-returns-in_ok-push-in-Variable : goal.write_pattern-returns-in_ok-push-in-Variable
write_pattern-returns-in_ok-push-in-Variable t c =
    last c.write_number.result (gnum c.from.result) (pat_code (pat c.args.pattern.now)) c.write_number.new.out.items c.push-in-Variable.new.self.items c.args.out.now.items (
    front_is 1 (gnum c.from.result) c.args.out.now.items c.push-in-Variable.new.self.items (lit< tt) c.in_ok-push-in-Variable.ensures.items ∙
    like (gcons (gnum 1) (gnum c.from.result)) (pat_code (pat c.args.pattern.now)) c.args.out.now.items (ap (λ n. gcons (gnum 1) (gnum n)) c.from.ensures ∙ sym (ap (λ x. pat_code (pat x)) c.in-Variable.is))
    ) c.write_number.ensures

pub write_pattern-returns-in_ok-push-in-Anything-2 : goal.write_pattern-returns-in_ok-push-in-Anything-2
write_pattern-returns-in_ok-push-in-Anything-2 t c =
    c.in_ok-push-in-Anything-2.ensures.items ∙ sym (written-nil c.push-in-Anything.new.self.items) ∙
    front_is 2 (gnil) c.args.out.now.items c.push-in-Anything.new.self.items (lit< tt) c.in_ok-push-in-Anything.ensures.items ∙
    like (gcons (gnum 2) gnil) (pat_code (pat c.args.pattern.now)) c.args.out.now.items (sym (ap (λ x. pat_code (pat x)) c.in-Anything.is))

pub write_pattern-returns-in_ok-push-in-Tuple : goal.write_pattern-returns-in_ok-push-in-Tuple
write_pattern-returns-in_ok-push-in-Tuple t c =
    last c.write_patterns.result (pats_code (pats c.as_slice.result.now)) (pat_code (pat c.args.pattern.now)) c.write_patterns.new.out.items c.push-in-Tuple.new.self.items c.args.out.now.items (
    front_is 3 (pats_code (pats c.as_slice.result.now)) c.args.out.now.items c.push-in-Tuple.new.self.items (lit< tt) c.in_ok-push-in-Tuple.ensures.items ∙
    like (gcons (gnum 3) (pats_code (pats c.as_slice.result.now))) (pat_code (pat c.args.pattern.now)) c.args.out.now.items (ap (λ r. gcons (gnum 3) (pats_code r)) c.as_slice.ensures ∙ sym (ap (λ x. pat_code (pat x)) c.in-Tuple.is))
    ) c.write_patterns.ensures

pub write_pattern-returns-in_ok-push-in-List : goal.write_pattern-returns-in_ok-push-in-List
write_pattern-returns-in_ok-push-in-List t c =
    last c.write_patterns-in-List.result (pats_code (pats c.as_slice-in-List.result.now)) (pat_code (pat c.args.pattern.now)) c.write_patterns-in-List.new.out.items c.push-in-List.new.self.items c.args.out.now.items (
    front_is 4 (pats_code (pats c.as_slice-in-List.result.now)) c.args.out.now.items c.push-in-List.new.self.items (lit< tt) c.in_ok-push-in-List.ensures.items ∙
    like (gcons (gnum 4) (pats_code (pats c.as_slice-in-List.result.now))) (pat_code (pat c.args.pattern.now)) c.args.out.now.items (ap (λ r. gcons (gnum 4) (pats_code r)) c.as_slice-in-List.ensures ∙ sym (ap (λ x. pat_code (pat x)) c.in-List.is))
    ) c.write_patterns-in-List.ensures

pub write_pattern-returns-in_ok-push-in-Cons : goal.write_pattern-returns-in_ok-push-in-Cons
write_pattern-returns-in_ok-push-in-Cons t c =
    last c.write_patterns-in-Cons.result (pats_code (pats c.as_slice-in-Cons.result.now)) (pat_code (pat c.args.pattern.now)) c.write_patterns-in-Cons.new.out.items c.push-in-Cons.new.self.items c.args.out.now.items (
    front_is 5 (pats_code (pats c.as_slice-in-Cons.result.now)) c.args.out.now.items c.push-in-Cons.new.self.items (lit< tt) c.in_ok-push-in-Cons.ensures.items ∙
    like (gcons (gnum 5) (pats_code (pats c.as_slice-in-Cons.result.now))) (pat_code (pat c.args.pattern.now)) c.args.out.now.items (ap (λ r. gcons (gnum 5) (pats_code r)) c.as_slice-in-Cons.ensures ∙ sym (ap (λ x. pat_code (pat x)) c.in-Cons.is))
    ) c.write_patterns-in-Cons.ensures

pub write_pattern-returns-in_ok-push-in-Alias : goal.write_pattern-returns-in_ok-push-in-Alias
write_pattern-returns-in_ok-push-in-Alias t c =
    last c.write_patterns-in-Alias.result (pats_code (pats c.as_slice-in-Alias.result.now)) (pat_code (pat c.args.pattern.now)) c.write_patterns-in-Alias.new.out.items c.push-in-Alias.new.self.items c.args.out.now.items (
    front_is 6 (pats_code (pats c.as_slice-in-Alias.result.now)) c.args.out.now.items c.push-in-Alias.new.self.items (lit< tt) c.in_ok-push-in-Alias.ensures.items ∙
    like (gcons (gnum 6) (pats_code (pats c.as_slice-in-Alias.result.now))) (pat_code (pat c.args.pattern.now)) c.args.out.now.items (ap (λ r. gcons (gnum 6) (pats_code r)) c.as_slice-in-Alias.ensures ∙ sym (ap (λ x. pat_code (pat x)) c.in-Alias.is))
    ) c.write_patterns-in-Alias.ensures

pub write_patterns-write_pattern-requires : goal.write_patterns-write_pattern-requires
write_patterns-write_pattern-requires t c =
    let smaller = depth_in c.args.row.now c.loop-pattern.pattern-index c.pattern-item.result c.loop-pattern-test.true c.pattern-item.is in
    search rules

pub write_patterns-loop-pattern-preserved : goal.write_patterns-loop-pattern-preserved
write_patterns-loop-pattern-preserved t c =
    both_is (pat_code (pat c.pattern-item.result)) (pats_code (pats (drop (c.loop-pattern.pattern-index + 1) c.args.row.now))) c.loop-pattern.out.items c.push.new.self.items c.write_pattern.new.out.items (pat-parts (pat c.pattern-item.result)) c.in_ok-push.ensures.items c.in_ok-write_pattern.ensures ∙
    like (gcons (pat_code (pat c.pattern-item.result)) (pats_code (pats (drop (c.loop-pattern.pattern-index + 1) c.args.row.now)))) (pats_code (pats (drop c.loop-pattern.pattern-index c.args.row.now))) c.loop-pattern.out.items (
    sym (ap (λ l. pats_code (pats l)) (left c.args.row.now c.loop-pattern.pattern-index c.pattern-item.result c.loop-pattern-test.true c.pattern-item.is))) ∙
    c.loop-pattern.invariant

pub write_patterns-returns : goal.write_patterns-returns
write_patterns-returns t c =
    row_end (pats_code (pats (drop c.loop-pattern.pattern-index c.args.row.now))) c.loop-pattern.out.items c.push-2.new.self.items (written (pats_code (pats c.args.row.now)) c.args.out.now.items)
    (ap (λ l. pats_code (pats l)) (drop_all c.loop-pattern.pattern-index c.args.row.now c.loop-pattern-test.false)) c.loop-pattern.invariant c.in_ok-push-2.ensures.items
