-- A sum is saturated once, where its parts are.
use Rattle.std.proofs.Common.{◌≡◌, ℕ, ◌+◌, ◌-◌, ◌*◌, ◌^◌, min, arith, rules}
use Rattle.erl_scan.specs.Numbers.{saturated}
use Rattle.erl_scan.proofs.numbers.with_digit.Goals as goal

again : (n d m r : ℕ) → m ≡ min n (2 ^ 64 - 1) → r ≡ min (m + d) (2 ^ 64 - 1) → r ≡ saturated (n + d)
unfolding saturated
again n d m r p q = omega arith

pub returns : goal.returns
returns c =
    again (c.args.value * c.args.base) c.args.digit c.saturating_mul.result c.saturating_add.result (search (rules, c.saturating_mul.ensures, c.from.ensures)) (search (rules, c.saturating_add.ensures, c.from-2.ensures))
