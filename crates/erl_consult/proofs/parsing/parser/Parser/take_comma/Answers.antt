-- The innermost bracket says what a comma does.
use Rattle.std.proofs.Common.{inr, subst, sym}
use Rattle.erl_consult.specs.Parser.{seen, Gives}
use Rattle.erl_consult.proofs.Stepping.{comma_taken}
use Rattle.erl_consult.proofs.parsing.parser.Parser.take_comma.Goals as goal

pub returns-in-Tuple : goal.returns-in-Tuple
returns-in-Tuple c =
    subst (λ o. Gives o (seen c.end_element.new.self) c.end_element.result) (sym (comma_taken (seen c.args.self.now) _ _ c.in-Some.opened c.args.at _ c.in-Some.ensures.items c.in-Tuple.is)) c.end_element.ensures

pub returns-in-List : goal.returns-in-List
returns-in-List c =
    subst (λ o. Gives o (seen c.end_element-in-List.new.self) c.end_element-in-List.result) (sym (comma_taken (seen c.args.self.now) _ _ c.in-Some.opened c.args.at _ c.in-Some.ensures.items c.in-List.is)) c.end_element-in-List.ensures

pub returns-in-Tail : goal.returns-in-Tail
returns-in-Tail c =
    inr (comma_taken (seen c.args.self.now) _ _ c.in-Some.opened c.args.at _ c.in-Some.ensures.items c.in-Tail.is)
