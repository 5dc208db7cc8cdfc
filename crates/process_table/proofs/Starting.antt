-- A start that is not refused.
use Rattle.std.proofs.Common.{◌≡◌, ℕ, ◌+◌, ◌<◌, ◌^◌, ◌==◌, Bool, true, false, cond, None, Some, refl, arith}
use Rattle.std.proofs.lemmas.Bool.{eqb-false}
use Rattle.process_table.specs.declared.error.ProcError.TheVariants.{NameTaken, CounterEnd}

not_end : (taken end : Bool) → cond taken (Some NameTaken) (cond end (Some CounterEnd) None) ≡ None → end ≡ false
not_end true end is = absurd cc
not_end false true is = absurd cc
not_end false false is = refl

-- where a start is not refused, a pid is left
pub pid_left : (taken : Bool) (next last own : ℕ) → own ≡ next → cond taken (Some NameTaken) (cond (next == 2 ^ 64) (Some CounterEnd) None) ≡ None → last + 1 ≡ own → last < 2 ^ 64 → own < 2 ^ 64
pid_left taken next last own same is counted below =
    let apart = eqb-false next (2 ^ 64) (not_end taken (next == 2 ^ 64) is) in
    omega (arith, same, apart, counted, below)
