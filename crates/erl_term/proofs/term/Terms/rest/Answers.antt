-- The same row, seen from one index further on.
use Rattle.std.proofs.Common.{◌≡◌, ◌∷◌, drop, ap, sym, ◌∙◌, subst, arith, rules}
use Rattle.erl_term.specs.Parts.{IsPart, behind}
use Rattle.erl_term.specs.Stored.{listed}
use Rattle.erl_term.specs.Term.{trees}
use Rattle.erl_term.proofs.Parts.{next_part, next_trees}
use Rattle.erl_term.proofs.term.Terms.rest.Goals as goal

pub invariant_of-result : goal.invariant_of-result
invariant_of-result c =
    let row = c.self.inside.row.value in
    let from = c.self.inside.from in
    let hidden = c.self.inside.hidden in
    let t = c.in-Some.first.now in
    let others = c.in-Some.others.now in
    let here : drop from (listed row.items) ≡ t ∷ others = search rules in
    let part = next_part (listed row.items) row.depth row.last row.size from hidden c.size.result c.in-Some-next.from c.in-Some-next.hidden t others c.self.invariant here c.size.ensures (search rules) (search rules) (search (rules, arith)) (search (rules, arith)) in
    subst (λ r. IsPart (listed r.items) r.depth r.last r.size c.in-Some-next.from c.in-Some-next.hidden) (sym c.in_ok-row-in-Some-next.ensures) part

pub returns-in_ok-row-in-Some-next : goal.returns-in_ok-row-in-Some-next
returns-in_ok-row-in-Some-next c =
    let row = c.self.inside.row.value in
    let from = c.self.inside.from in
    let t = c.in-Some.first.now in
    let others = c.in-Some.others.now in
    let here : drop from (listed row.items) ≡ t ∷ others = search rules in
    let seen = next_trees (listed row.items) from c.in-Some-next.from t others c.args.self.now here (search rules) (ap trees (sym here) ∙ c.self.view_is) in
    subst (λ r. trees (drop c.in-Some-next.from (listed r.items)) ≡ behind c.args.self.now) (sym c.in_ok-row-in-Some-next.ensures) seen
