-- How many nodes a tree has.
use Rattle.std.proofs.Common.{◌≡◌, ◌<◌, ◌*◌, ◌/◌, ◌^◌, ℕ, zero, suc, Bool, List, length, arith, sym, ◌∙◌, ⊎_elim}
use Rattle.std.proofs.Math.Nat.{pow-succ'}
use Rattle.std.proofs.lemmas.Bool.{cases_lt}
use Rattle.ready_set.specs.Marks.{IsFull}

-- twice as many as it has leaves
pub even_marks : (marks : List Bool) → IsFull marks → 2 * (length marks / 2) ≡ length marks
even_marks marks full =
    ⊎_elim (λ some. let e : 2 * 2 ^ (full some).0 ≡ length marks = sym (full some).1 in omega arith)
    (λ none. omega arith)
    (cases_lt 0 (length marks))

-- a power of two is one, or twice another
pub halved : (end : ℕ) → ((e : ℕ) × (end ≡ 2 ^ e)) → 1 < end → (e : ℕ) × (end / 2 ≡ 2 ^ e) × (end ≡ 2 * (end / 2))
halved end (zero, is) more = absurd (omega (arith, is))
halved end (suc e, is) more =
    let twice : end ≡ 2 * 2 ^ e = is ∙ pow-succ' 2 e in
    (e, omega arith, omega arith)

-- one leaf is a power of two
pub first_full : (marks : List Bool) → length marks ≡ 2 → IsFull marks
first_full marks two some = (0, two)

-- and so is twice another
pub twice_full : (old new : List Bool) → IsFull old → (length old ≡ 0 → ⊥) → length new ≡ 2 * length old → IsFull new
twice_full old new full some twice more =
    let it = full (omega arith) in
    let e : length old ≡ 2 * 2 ^ it.0 = it.1 in
    let next : 2 ^ suc it.0 ≡ 2 * 2 ^ it.0 = pow-succ' 2 it.0 in
    (suc it.0, omega arith)
