-- The bracket goes on, with one element more.
use Rattle.std.proofs.Common.{sym, subst, ap, ◌∙◌}
use Rattle.erl_term.specs.Term.{trees}
use Rattle.erl_consult.specs.declared.parsing.parser.Last.{Last as Held}
use Rattle.erl_consult.specs.Parser.{seen, frames, frame_seen, bracket_seen, last_seen, Gives}
use Rattle.erl_consult.specs.Steps.{Seen, term_of_last}
use Rattle.erl_consult.proofs.Stepping.{element_ended-some}
use Rattle.erl_consult.proofs.parsing.parser.Parser.end_element.Goals as goal

pub returns : goal.returns
returns c =
    let now : Held → Seen = λ l. record { whole = trees c.args.self.now.whole.items; open_ones = frames c.args.self.now.«open».items; last = last_seen l } in
    subst (λ o. Gives o (seen c.push_bracket.new.self) c.push_bracket.result) (sym (element_ended-some (seen c.args.self.now) _ (frame_seen c.args.opened) _ (bracket_seen c.args.bracket) _ _ c.args.at _ (ap (λ l. term_of_last (last_seen l)) (sym c.replace-last.ensures.value) ∙ c.in_ok-term.ensures) c.in_ok-push.ensures.ok (ap (λ l. now l) c.replace-last.ensures.after))) c.push_bracket.ensures
