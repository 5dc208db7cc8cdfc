-- The least index that passes a test, looked for from an index on.
use Rattle.std.proofs.Common.{◌≡◌, ℕ, ◌+◌, ◌-◌, ◌<◌, ◌≤◌, suc, zero, Bool, cond, Option, None, Some, refl, ap, arith}
use Rattle.std.specs.List.{find, range_with_len}

pub one_more : (test : ℕ → Bool) (n index : ℕ) → index < n → find test (range_with_len index (n - index)) ≡ cond (test index) (Some index) (find test (range_with_len (index + 1) (n - (index + 1))))
one_more test n index below =
    let e : n - index ≡ suc (n - (index + 1)) = omega arith in
    ap (λ k. find test (range_with_len index k)) e

pub none_left : (test : ℕ → Bool) (n index : ℕ) → n ≤ index → find test (range_with_len index (n - index)) ≡ None
none_left test n index over =
    let e : n - index ≡ zero = omega arith in
    ap (λ k. find test (range_with_len index k)) e
