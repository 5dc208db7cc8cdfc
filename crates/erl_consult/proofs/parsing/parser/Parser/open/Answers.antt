-- A bracket opens where there is room.
use Rattle.std.proofs.Common.{sym, subst, ap}
use Rattle.erl_term.specs.Term.{trees}
use Rattle.erl_consult.specs.Parser.{seen, bracket_seen, Gives}
use Rattle.erl_consult.proofs.Stepping.{opened_by-room}
use Rattle.erl_consult.proofs.parsing.parser.Parser.open.Goals as goal

pub returns : goal.returns
returns c =
    subst (λ o. Gives o (seen c.push_bracket.new.self) c.push_bracket.result) (sym (opened_by-room (seen c.args.self.now) (bracket_seen c.args.bracket) c.args.at _ c.if-not-has_room.ensures c.requires (ap (λ ts. trees ts) c.new-items.ensures.items))) c.push_bracket.ensures
