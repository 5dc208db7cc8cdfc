-- The innermost bracket says what a closing bracket does.
use Rattle.std.proofs.Common.{inr, refl, sym, ap, ◌∙◌}
use Rattle.std.specs.Option.{option_map}
use Rattle.erl_term.specs.Rows.{append_trees}
use Rattle.erl_term.specs.Term.{trees}
use Rattle.erl_consult.specs.Parser.{seen, last_seen}
use Rattle.erl_consult.specs.Steps.{elements_at, tail_elements, term_of_last}
use Rattle.erl_consult.proofs.Stepping.{close_list_taken, close_list-some, close_list-none, close_tail-some, close_tail-none, gives-err, refused_for}
use Rattle.erl_consult.proofs.parsing.parser.Parser.take_close_list.Goals as goal

pub returns-in_err-elements-in-List : goal.returns-in_err-elements-in-List
returns-in_err-elements-in-List c =
    let o = c.in-Some.opened in
    let was = ap (λ l. elements_at (trees o.items.items) (last_seen l)) (sym c.replace-last.ensures.value) in
    gives-err c.from_residual.result _ _ c.in_err-elements-in-List.field-0.0 c.from_residual.ensures (refused_for _ _ _ _ c.args.at c.in_err-elements-in-List.ensures (λ none. close_list-none (seen c.args.self.now) _ _ o c.args.at c.in-Some.ensures.items c.in-List.is (was ∙ none)))

pub returns-in_err-with_tail-in-Tail : goal.returns-in_err-with_tail-in-Tail
returns-in_err-with_tail-in-Tail c =
    let o = c.in-Some.opened in
    let was = ap (λ l. option_map (append_trees (trees o.items.items)) (tail_elements (term_of_last (last_seen l)))) (sym c.replace-last.ensures.value) in
    gives-err c.from_residual-in_err-with_tail-in-Tail.result _ _ c.in_err-with_tail-in-Tail.field-0.0 c.from_residual-in_err-with_tail-in-Tail.ensures (refused_for _ _ _ _ c.args.at c.in_err-with_tail-in-Tail.ensures (λ none. close_tail-none (seen c.args.self.now) _ _ o c.in-Tail.bar c.args.at c.in-Some.ensures.items c.in-Tail.is (was ∙ none)))

pub returns-in-Tuple : goal.returns-in-Tuple
returns-in-Tuple c =
    inr (close_list_taken (seen c.args.self.now) _ _ c.in-Some.opened c.args.at _ c.in-Some.ensures.items c.in-Tuple.is)

pub returns-in_ok-elements-in-List : goal.returns-in_ok-elements-in-List
returns-in_ok-elements-in-List c =
    let o = c.in-Some.opened in
    let was = ap (λ l. elements_at (trees o.items.items) (last_seen l)) (sym c.replace-last.ensures.value) in
    close_list-some (seen c.args.self.now) _ _ o c.args.at _ _ c.in-Some.ensures.items c.in-List.is (was ∙ c.in_ok-elements-in-List.ensures) refl

pub returns-in_ok-with_tail-in-Tail : goal.returns-in_ok-with_tail-in-Tail
returns-in_ok-with_tail-in-Tail c =
    let o = c.in-Some.opened in
    let was = ap (λ l. option_map (append_trees (trees o.items.items)) (tail_elements (term_of_last (last_seen l)))) (sym c.replace-last.ensures.value) in
    close_tail-some (seen c.args.self.now) _ _ o c.in-Tail.bar c.args.at _ _ c.in-Some.ensures.items c.in-Tail.is (was ∙ c.in_ok-with_tail-in-Tail.ensures) refl
