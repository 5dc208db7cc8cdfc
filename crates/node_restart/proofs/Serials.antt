-- The serials of all modules are left.
use Rattle.std.proofs.Common.{◌≡◌, ℕ, ◌+◌, ◌^◌, ◌<◌, ◌≤◌, zero, suc, true, List, [], ◌∷◌, drop, length, nat_lt, refl, ap, arith}
use Rattle.std.proofs.lemmas.Bool.Decides.{nat_tests}
use Rattle.release_boot.specs.Boot.{modules_of}
use Rattle.release_table.specs.declared.table.AppFiles.{AppFiles}

none_left : (apps : List AppFiles) (index : ℕ) → length apps ≤ index → drop index apps ≡ []
none_left [] zero past = refl
none_left [] (suc index) past = refl
none_left (app ∷ apps) zero past = absurd (omega (arith, past))
none_left (app ∷ apps) (suc index) past = none_left apps index (omega (arith, past))

pub all_given : (apps : List AppFiles) (index now last : ℕ) → length apps ≤ index → now + length (modules_of (drop index apps)) ≡ last + length (modules_of apps) → now < 2 ^ 64 → true ≡ nat_lt (last + length (modules_of apps)) (2 ^ 64)
all_given apps index now last past sum fits =
    let none : length (modules_of (drop index apps)) ≡ 0 = ap (λ (xs : List AppFiles). length (modules_of xs)) (none_left apps index past) in
    let below : last + length (modules_of apps) < 2 ^ 64 = omega (arith, none, sum, fits) in
    grind (arith, nat_tests, below)
