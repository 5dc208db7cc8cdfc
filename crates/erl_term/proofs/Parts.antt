-- Lemmas on rows that are seen from an index on.
use Rattle.std.proofs.Common.{◌≡◌, ℕ, zero, suc, ◌+◌, ◌-◌, ◌^◌, ◌<◌, ◌≤◌, max, min, List, [], ◌∷◌, ◌++◌, length, get_or, take, drop, refl, sym, ap, ◌∙◌, subst, arith}
use Rattle.std.proofs.lemmas.List.{drop-append-le, drop-drop, length-append, length-drop, length-take-le}
use Rattle.std.proofs.Math.Seq.{drop-append_seam, drop-append-add}
use Rattle.erl_term.specs.declared.term.Term.{Term}
use Rattle.erl_term.specs.Parts.{IsPart, HasExtent, behind, drop_depth-later}
use Rattle.erl_term.specs.Rows.{append_trees}
use Rattle.erl_term.specs.Tree.{Trees, more, depth, greatest_depth, size, total_size}
use Rattle.erl_term.specs.Term.{tree, trees}
use Rattle.erl_term.proofs.Rows.{take_here, greatest_depth-push, total_size-push}

-- One term more, behind those that were told of

-- which is as deep as any before it
deeper : (ts : List Term) (t : Term) (d last s k n new : ℕ) → HasExtent ts d last s → k ≡ min (depth (tree t)) (2 ^ 64 - 1) → n ≡ min (size (tree t)) (2 ^ 64 - 1) → d ≤ k → new ≡ min (s + n) (2 ^ 64 - 1) → HasExtent (ts ++ t ∷ []) k (length ts) new
deeper ts t d last s k n new told here sized least sum = record {
  depth_is = rw greatest_depth-push (omega (arith, told.depth_is, here, least));
  last_has_it = here ∙ sym (ap (λ us. min (greatest_depth (trees us)) (2 ^ 64 - 1)) (drop-append_seam ts (t ∷ [])) ∙ omega arith);
  last_within = rw length-append (omega arith);
  size_is = rw total_size-push (omega (arith, told.size_is, sized, sum));
}

-- which is not
flatter : (ts : List Term) (t : Term) (d last s k n new : ℕ) → HasExtent ts d last s → k ≡ min (depth (tree t)) (2 ^ 64 - 1) → n ≡ min (size (tree t)) (2 ^ 64 - 1) → k < d → new ≡ min (s + n) (2 ^ 64 - 1) → HasExtent (ts ++ t ∷ []) d last new
flatter ts t d last s k n new told here sized less sum = record {
  depth_is = rw greatest_depth-push (omega (arith, told.depth_is, here, less));
  last_has_it = rw (drop-append-le last ts (t ∷ []) told.last_within, greatest_depth-push) (omega (arith, told.last_has_it, here, less));
  last_within = rw length-append (omega (arith, told.last_within));
  size_is = rw total_size-push (omega (arith, told.size_is, sized, sum));
}

pub told_deeper : (items : List Term) (i : ℕ) (t : Term) (d last s k n new : ℕ) → i < length items → t ≡ get_or items i t → HasExtent (take i items) d last s → k ≡ min (depth (tree t)) (2 ^ 64 - 1) → n ≡ min (size (tree t)) (2 ^ 64 - 1) → d ≤ k → new ≡ min (s + n) (2 ^ 64 - 1) → HasExtent (take (i + 1) items) k i new
told_deeper items i t d last s k n new within is told here sized least sum =
    subst (λ us. HasExtent us k i new) (sym (take_here items i t within is)) (subst (λ j. HasExtent (take i items ++ t ∷ []) k j new) (length-take-le i items (omega arith)) (deeper (take i items) t d last s k n new told here sized least sum))

pub told_flatter : (items : List Term) (i : ℕ) (t : Term) (d last s k n new : ℕ) → i < length items → t ≡ get_or items i t → HasExtent (take i items) d last s → k ≡ min (depth (tree t)) (2 ^ 64 - 1) → n ≡ min (size (tree t)) (2 ^ 64 - 1) → k < d → new ≡ min (s + n) (2 ^ 64 - 1) → HasExtent (take (i + 1) items) d last new
told_flatter items i t d last s k n new within is told here sized less sum =
    subst (λ us. HasExtent us d last new) (sym (take_here items i t within is)) (flatter (take i items) t d last s k n new told here sized less sum)

pub told_none : (items : List Term) → HasExtent (take 0 items) 0 0 0
told_none items = record { depth_is = omega arith; last_has_it = omega arith; last_within = omega arith; size_is = omega arith }

-- A row that is seen whole

-- an index before the last that has the greatest depth serves as well
pub earlier_part : (items : List Term) (d last s earlier : ℕ) → HasExtent items d last s → d < 2 ^ 64 - 1 → earlier ≤ last → IsPart items d earlier s 0 0
earlier_part items d last s earlier told below before = record {
  depth_is = omega (arith, told.depth_is, below);
  last_has_it = omega (arith, told.depth_is, told.last_has_it, below, drop_depth-later items earlier last before, drop_depth-later items 0 earlier (omega arith));
  depth_below = below;
  last_within = omega (arith, told.last_within, before);
  from_before = omega arith;
  hidden_within = omega arith;
  size_seen = omega (arith, told.size_is);
}

-- The row behind the first term that is seen

drop_next : (items : List Term) (n : ℕ) (t : Term) (others : List Term) → drop n items ≡ t ∷ others → drop (suc n) items ≡ others
drop_next [] zero t others e = absurd (let no : ⊥ = cc in no)
drop_next [] (suc n) t others e = absurd (let no : ⊥ = cc in no)
drop_next (u ∷ us) zero t others e = ap (λ ts. drop 1 ts) e
drop_next (u ∷ us) (suc n) t others e = drop_next us n t others e

next_seen : (items : List Term) (from next : ℕ) (t : Term) (others : List Term) → drop from items ≡ t ∷ others → next ≡ from + 1 → drop next items ≡ others
next_seen items from next t others e next_is =
    let suc_is : next ≡ suc from = omega (arith, next_is) in
    ap (λ n. drop n items) suc_is ∙ drop_next items from t others e

pub next_part : (items : List Term) (d last s from hidden n next sum : ℕ) (t : Term) (others : List Term) → IsPart items d last s from hidden → drop from items ≡ t ∷ others → n ≡ min (size (tree t)) (2 ^ 64 - 1) → next ≡ from + 1 → sum ≡ hidden + n → from < last → s - hidden < 2 ^ 64 - 1 → IsPart items d last s next sum
next_part items d last s from hidden n next sum t others part e sized next_is sum_is before known =
    let seen : s - hidden ≡ min (size (tree t) + total_size (trees others)) (2 ^ 64 - 1) = part.size_seen ∙ ap (λ us. min (total_size (trees us)) (2 ^ 64 - 1)) e in
    let later : total_size (trees (drop next items)) ≡ total_size (trees others) = ap (λ us. total_size (trees us)) (next_seen items from next t others e next_is) in
    record {
      depth_is = part.depth_is;
      last_has_it = part.last_has_it;
      depth_below = part.depth_below;
      last_within = part.last_within;
      from_before = omega (arith, before, next_is);
      hidden_within = omega (arith, seen, sized, sum_is, known, part.hidden_within);
      size_seen = omega (arith, seen, later, sized, sum_is, known, part.hidden_within);
    }

-- the terms behind the first, as they are seen
pub next_trees : (items : List Term) (from next : ℕ) (t : Term) (others : List Term) (row : Trees) → drop from items ≡ t ∷ others → next ≡ from + 1 → trees (t ∷ others) ≡ row → trees (drop next items) ≡ behind row
next_trees items from next t others row e next_is is = ap trees (next_seen items from next t others e next_is) ∙ ap behind is

-- what a row shows is as deep as all of it
pub seen_depth : (items : List Term) (d last s from hidden : ℕ) → IsPart items d last s from hidden → d ≡ min (greatest_depth (trees (drop from items))) (2 ^ 64 - 1)
seen_depth items d last s from hidden part =
    let later = drop_depth-later items from last part.from_before in
    let all = drop_depth-later items 0 from (omega arith) in
    omega (arith, part.depth_is, part.last_has_it, part.depth_below, later, all)

-- Two rows, one behind the other

greatest_depth-append : (ts us : List Term) → greatest_depth (trees (ts ++ us)) ≡ max (greatest_depth (trees ts)) (greatest_depth (trees us))
greatest_depth-append [] us = omega arith
greatest_depth-append (t ∷ ts) us = omega (arith, greatest_depth-append ts us)

total_size-append : (ts us : List Term) → total_size (trees (ts ++ us)) ≡ total_size (trees ts) + total_size (trees us)
total_size-append [] us = omega arith
total_size-append (t ∷ ts) us = omega (arith, total_size-append ts us)

-- the deepest stand behind
pub told_behind : (ts us : List Term) (n d last s k m z sum : ℕ) → length ts ≡ n → HasExtent ts d last s → HasExtent us k m z → d ≤ k → sum ≡ min (s + z) (2 ^ 64 - 1) → HasExtent (ts ++ us) k (n + m) sum
told_behind ts us n d last s k m z sum len one other least sum_is =
    let here : drop (n + m) (ts ++ us) ≡ drop m us = subst (λ i. drop (i + m) (ts ++ us) ≡ drop m us) len (drop-append-add ts us m) in
    record {
      depth_is = omega (arith, greatest_depth-append ts us, one.depth_is, other.depth_is, least);
      last_has_it = other.last_has_it ∙ sym (ap (λ vs. min (greatest_depth (trees vs)) (2 ^ 64 - 1)) here);
      last_within = omega (arith, length-append ts us, len, other.last_within);
      size_is = omega (arith, total_size-append ts us, one.size_is, other.size_is, sum_is);
    }

-- they stand in front alone
pub told_in_front : (ts us : List Term) (d last s k m z sum : ℕ) → HasExtent ts d last s → HasExtent us k m z → k < d → sum ≡ min (s + z) (2 ^ 64 - 1) → HasExtent (ts ++ us) d last sum
told_in_front ts us d last s k m z sum one other less sum_is =
    let here : drop last (ts ++ us) ≡ drop last ts ++ us = drop-append-le last ts us one.last_within in
    let deep : min (greatest_depth (trees (drop last (ts ++ us)))) (2 ^ 64 - 1) ≡ min (greatest_depth (trees (drop last ts ++ us))) (2 ^ 64 - 1) = ap (λ vs. min (greatest_depth (trees vs)) (2 ^ 64 - 1)) here in
    record {
      depth_is = omega (arith, greatest_depth-append ts us, one.depth_is, other.depth_is, less);
      last_has_it = omega (arith, deep, greatest_depth-append (drop last ts) us, one.last_has_it, other.depth_is, less);
      last_within = omega (arith, length-append ts us, one.last_within);
      size_is = omega (arith, total_size-append ts us, one.size_is, other.size_is, sum_is);
    }

-- what is told of the terms that are seen
pub told_part : (items : List Term) (d last s from hidden : ℕ) → IsPart items d last s from hidden → HasExtent (drop from items) d (last - from) (s - hidden)
told_part items d last s from hidden part =
    let whole : from + (last - from) ≡ last = omega (arith, part.from_before) in
    let here : drop (last - from) (drop from items) ≡ drop last items = drop-drop (last - from) from items ∙ ap (λ n. drop n items) whole in
    let deep : greatest_depth (trees (drop (last - from) (drop from items))) ≡ greatest_depth (trees (drop last items)) = ap (λ vs. greatest_depth (trees vs)) here in
    record {
      depth_is = seen_depth items d last s from hidden part;
      last_has_it = omega (arith, deep, part.last_has_it, part.depth_below);
      last_within = omega (arith, length-drop from items, part.last_within, part.from_before);
      size_is = part.size_seen;
    }

pub trees_append : (ts us : List Term) → trees (ts ++ us) ≡ append_trees (trees ts) (trees us)
trees_append [] us = refl
trees_append (t ∷ ts) us = ap (λ r. more (tree t) r) (trees_append ts us)
