use Rattle.std.proofs.Common.{◌≡◌, ℕ, length, refl, ap, ◌∙◌, replicate, true, rules, ltb}
use Rattle.dependency_order.proofs.Leaving.{at_start}
use Rattle.dependency_order.proofs.order.all_left.Goals as goal

pub returns-clause-known : goal.returns-clause-known
returns-clause-known c = λ asks gives giving.
    let all : c.in_ok-vec.field-0.items ≡ replicate (length c.args.givers.now) true = search rules in
    let none : c.in_ok-vec-2.field-0.items ≡ replicate {A = ℕ} (length c.args.givers.now) 0 = search rules in
    at_start asks gives c.args.givers.now (length c.args.givers.now) _ giving all c.in_ok-lengths.ensures none (λ p. c.in_ok-numbers.ensures p ∙ ap (ltb p) c.len-count.ensures) refl
