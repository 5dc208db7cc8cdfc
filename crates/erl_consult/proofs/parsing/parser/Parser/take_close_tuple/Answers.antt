-- The innermost bracket says what a closing brace does.
use Rattle.std.proofs.Common.{inl, inr, sym, ap, ◌∙◌}
use Rattle.erl_term.specs.Term.{trees}
use Rattle.erl_consult.specs.Parser.{seen, last_seen}
use Rattle.erl_consult.specs.Steps.{elements_at}
use Rattle.erl_consult.proofs.Stepping.{close_tuple_taken, close_tuple-some, close_tuple-none, gives-err, refused_for}
use Rattle.erl_consult.proofs.parsing.parser.Parser.take_close_tuple.Goals as goal

pub returns-in_err-items-in-Tuple : goal.returns-in_err-items-in-Tuple
returns-in_err-items-in-Tuple c =
    let o = c.in-Some.opened in
    let was = ap (λ l. elements_at (trees o.items.items) (last_seen l)) (sym c.replace-last.ensures.value) in
    gives-err c.from_residual.result _ _ c.in_err-items-in-Tuple.field-0.0 c.from_residual.ensures (refused_for _ _ _ _ c.args.at c.in_err-items-in-Tuple.ensures (λ none. close_tuple-none (seen c.args.self.now) _ _ o c.args.at c.in-Some.ensures.items c.in-Tuple.is (was ∙ none)))

pub returns-in_ok-row-in-Tuple : goal.returns-in_ok-row-in-Tuple
returns-in_ok-row-in-Tuple c =
    let o = c.in-Some.opened in
    let was = ap (λ l. elements_at (trees o.items.items) (last_seen l)) (sym c.replace-last.ensures.value) in
    close_tuple-some (seen c.args.self.now) _ _ o c.args.at _ _ c.in-Some.ensures.items c.in-Tuple.is (was ∙ c.in_ok-items-in-Tuple.ensures) c.in_ok-row-in-Tuple.ensures

pub returns-in-List : goal.returns-in-List
returns-in-List c = elim c.in-List.is [
  | inl is ↦ inr (close_tuple_taken (seen c.args.self.now) _ _ c.in-Some.opened c.args.at _ c.in-Some.ensures.items is)
  | inr is ↦ inr (close_tuple_taken (seen c.args.self.now) _ _ c.in-Some.opened c.args.at _ c.in-Some.ensures.items is.1)
]
