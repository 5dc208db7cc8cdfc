-- A newline more.
use Rattle.std.proofs.Common.{◌≡◌, inr, ℕ, Bool, cond, ◌+◌, List, [], ◌∷◌, ◌++◌, append-nil, append_assoc, arith, refl, sym, ap, ◌∙◌}
use Rattle.std.specs.List.{count_by}
use Rattle.std.proofs.lemmas.List.Sums.{sum_by-append}
use Rattle.diagnostics.specs.Positions.{StandsBehind, begins_character, is_newline}
use Rattle.diagnostics.specs.declared.position.Position.{Position}

count-append : (p : ℕ → Bool) (xs ys : List ℕ) → count_by p (xs ++ ys) ≡ count_by p xs + count_by p ys
count-append p xs ys = sum_by-append (λ x. cond (p x) 1 0) xs ys

pub behind-newline : (before : List ℕ) (b : ℕ) (p : Position) → b ≡ 10 → StandsBehind before p → StandsBehind (before ++ b ∷ []) (record { line = p.line + 1; column = 1 })
behind-newline before b p is it = record {
  lines = (it.lines ++ it.begun) ++ 10 ∷ [];
  begun = [];
  parts = (λ i. it.parts i ++ is i ∷ []) ∙ sym (append-nil ((it.lines ++ it.begun) ++ 10 ∷ []));
  are_lines = inr (it.lines ++ it.begun, refl);
  is_begun = refl;
  line =
      let outer = count-append is_newline (it.lines ++ it.begun) (10 ∷ []) in
      let inner = count-append is_newline it.lines it.begun in
      let none = it.is_begun in
      let was = it.line in
      grind arith;
  column = refl;
}
