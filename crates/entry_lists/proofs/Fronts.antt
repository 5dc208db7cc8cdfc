-- Lemmas on a front of lists: an item further, a list further, with more lists behind, and at the end.
use Rattle.std.proofs.Common.{◌≡◌, ◌<◌, ◌≤◌, ℕ, List, [], ◌++◌, length, take, slice_index_or, refl, sym, ap, subst, ◌∙◌, ⊎_elim, arith}
use Rattle.std.proofs.lemmas.Bool.{cases_lt}
use Rattle.std.proofs.lemmas.List.{append-nil, get_or_append_left, get_or_past, take-append-le, take_all}
use Rattle.std.specs.List.{flat_map}
use Rattle.entry_lists.specs.Found.{front_of}

module _ {R : Type 0} where
  next_before : (lists more : List (List R)) (whole some : ℕ) → whole < length lists → take some (slice_index_or (lists ++ more) whole []) ≡ take some (slice_index_or lists whole [])
  next_before lists more whole some within = ap (take some) (get_or_append_left lists more [] whole within)

  none_past : (lists more : List (List R)) (whole some : ℕ) → length lists ≤ whole → some ≤ length (slice_index_or lists whole []) → take some (slice_index_or (lists ++ more) whole []) ≡ take some (slice_index_or lists whole [])
  none_past lists more whole some past short =
      let past_end = get_or_past lists whole [] past in
      let none : some ≡ 0 = omega (arith, ap length past_end) in
      subst (λ n. take n (slice_index_or (lists ++ more) whole []) ≡ take n (slice_index_or lists whole [])) (sym none) refl

  pub front_of-append : (lists more : List (List R)) (whole some : ℕ) → whole ≤ length lists → some ≤ length (slice_index_or lists whole []) → front_of (lists ++ more) whole some ≡ front_of lists whole some
  front_of-append lists more whole some within short =
      let fronts : take whole (lists ++ more) ≡ take whole lists = take-append-le whole lists more within in
      let nexts : take some (slice_index_or (lists ++ more) whole []) ≡ take some (slice_index_or lists whole []) = ⊎_elim (λ before. next_before lists more whole some before) (λ past. none_past lists more whole some past short) (cases_lt whole (length lists)) in
      ap (λ front. flat_map (λ (list : List R). list) front ++ take some (slice_index_or (lists ++ more) whole [])) fronts ∙ ap (λ items. flat_map (λ (list : List R). list) (take whole lists) ++ items) nexts

  pub front_of-all : (lists : List (List R)) (whole some : ℕ) → length lists ≤ whole → front_of lists whole some ≡ flat_map (λ list. list) lists
  front_of-all lists whole some past =
      let nexts : take some (slice_index_or lists whole []) ≡ [] = ap (take some) (get_or_past lists whole [] past) ∙ take_all some [] (omega arith) in
      ap (λ front. flat_map (λ (list : List R). list) front ++ take some (slice_index_or lists whole [])) (take_all whole lists past) ∙ ap (λ items. flat_map (λ (list : List R). list) lists ++ items) nexts ∙ append-nil (flat_map (λ (list : List R). list) lists)
