-- What is left of runs whose first entry was given some times.
use Rattle.std.proofs.Common.{◌≡◌, ◌+◌, ◌-◌, ◌<◌, ◌≤◌, ℕ, suc, List, [], ◌∷◌, ◌++◌, All, drop, replicate, refl, sym, ap, ◌∙◌, arith}
use Rattle.std.proofs.lemmas.List.{drop-append-le, drop-replicate, length-replicate}
use Rattle.std.proofs.lemmas.List.Elements.{All-head, All-tail}
use Rattle.entry_lists.specs.Entries.{HasLeft, written_out}
use Rattle.entry_lists.specs.declared.entries.Run.{Run}

module _ {E : Type 0} where
  left-of : (n : ℕ) (run : Run E) (runs : List (Run E)) → n ≤ run.count → drop n (written_out (run ∷ runs)) ≡ replicate (run.count - n) run.entry ++ written_out runs
  left-of n run runs within =
      drop-append-le n (replicate run.count run.entry) (written_out runs) (let l = length-replicate run.count run.entry in omega (arith, l)) ∙ ap (λ es. es ++ written_out runs) (drop-replicate n run.count run.entry)

  one-of : (n : ℕ) (run : Run E) (runs : List (Run E)) → n < run.count → drop n (written_out (run ∷ runs)) ≡ run.entry ∷ (replicate (run.count - (n + 1)) run.entry ++ written_out runs)
  one-of n run runs below =
      let one : run.count - n ≡ suc (run.count - (n + 1)) = omega arith in
      left-of n run runs (omega arith) ∙ ap (λ k. replicate k run.entry ++ written_out runs) one

  -- the next entry, and those behind it, where more of its run are left, and where none is
  pub next-of : (n : ℕ) (run : Run E) (runs : List (Run E)) → n < run.count → drop n (written_out (run ∷ runs)) ≡ run.entry ∷ drop (n + 1) (written_out (run ∷ runs))
  next-of n run runs below =
      one-of n run runs below ∙ ap (λ es. run.entry ∷ es) (sym (left-of (n + 1) run runs (omega arith)))

  pub last-of : (n : ℕ) (run : Run E) (runs : List (Run E)) → n + 1 ≡ run.count → drop n (written_out (run ∷ runs)) ≡ run.entry ∷ drop 0 (written_out runs)
  last-of n run runs last =
      let none : run.count - (n + 1) ≡ 0 = omega arith in
      one-of n run runs (omega arith) ∙ ap (λ k. run.entry ∷ (replicate k run.entry ++ written_out runs)) none

  pub begun : (runs : List (Run E)) → All (λ run. 0 < run.count) runs → HasLeft 0 runs
  begun [] all = refl
  begun (run ∷ runs) all = (All-head (λ (r : Run E). 0 < r.count) run runs all, all)

  pub rest-begun : (given : ℕ) (run : Run E) (runs : List (Run E)) → HasLeft given (run ∷ runs) → HasLeft 0 runs
  rest-begun given run runs has = begun runs (All-tail (λ (r : Run E). 0 < r.count) run runs has.1)
