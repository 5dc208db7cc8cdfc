-- It is asked for behind the rest.
use Rattle.std.proofs.Common.{◌≡◌, ◌++◌, ◌∙◌, ap, subst, sym}
use Rattle.upgrade_calls.proofs.Reached.{more_asked}
use Rattle.upgrade_calls.specs.Evaluated.{AreEvaluated, Evaluated, asked}
use Rattle.upgrade_calls.proofs.evaluating.Evaluation.ask.Goals as goal

pub returns-clause-evaluated : goal.returns-clause-evaluated
returns-clause-evaluated c t it =
    let acts = c.in_ok-append.ensures ∙ ap (λ (e : Evaluated). e.acts ++ c.args.more) c.self.view_is in
    let after : Evaluated = record { changes = c.self.inside.changes.items; states = c.self.inside.states; acts = c.append.new.acts.items } in
    let is : after ≡ asked c.args.more c.args.self = λ i. record { changes = (c.self.view_is i).changes; states = (c.self.view_is i).states; acts = acts i } in
    subst (AreEvaluated t) (sym is) (more_asked t c.args.more c.args.self c.requires it)
