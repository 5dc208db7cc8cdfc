-- The innermost bracket says what a bar does.
use Rattle.std.proofs.Common.{inl, inr, subst, sym}
use Rattle.erl_consult.specs.Parser.{seen, Gives}
use Rattle.erl_consult.proofs.Stepping.{bar_taken}
use Rattle.erl_consult.proofs.parsing.parser.Parser.take_bar.Goals as goal

pub returns-in-List : goal.returns-in-List
returns-in-List c =
    subst (λ o. Gives o (seen c.end_element.new.self) c.end_element.result) (sym (bar_taken (seen c.args.self.now) _ _ c.in-Some.opened c.args.at _ c.in-Some.ensures.items c.in-List.is)) c.end_element.ensures

pub returns-in-Tuple : goal.returns-in-Tuple
returns-in-Tuple c = elim c.in-Tuple.is [
  | inl is ↦ inr (bar_taken (seen c.args.self.now) _ _ c.in-Some.opened c.args.at _ c.in-Some.ensures.items is)
  | inr is ↦ inr (bar_taken (seen c.args.self.now) _ _ c.in-Some.opened c.args.at _ c.in-Some.ensures.items is.1)
]
